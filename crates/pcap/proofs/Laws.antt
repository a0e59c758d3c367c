-- How a call on a trace or a capture ends: refused, short of room, or written.
-- Assumes nothing.
use mathlib.Core.Path.{◌≡◌, refl, sym, ap, ◌∙◌, subst}
use mathlib.Core.Bool.{Bool, true, false, cond}
use mathlib.Core.List.{List, []}
use Prim.Native.Nat.{ℕ, ◌-◌, ◌≤◌, ◌<◌}
use native.Mathlib.Omega.{arith}
use borrow.Author.Tests.{ltb-false}
use lib.Dec.{ltb}
use lib.ListN.{length}
use Rattle.std.specs.Prelude.{Result, Ok, Err}
use Rattle.rules.proofs.Tests.{tests, by_test, never}
use Rattle.octets.specs.Laid.{over}
use Rattle.pcap_lists.specs.Lists.{Said, good, refused, short, said}
use Rattle.pcap_lists.specs.declared.Error.{Error}
use Rattle.pcap_lists.specs.declared.Error.TheVariants.{Refused, Short}
use Rattle.pcap.specs.Captures.{numbers, told, Outcome, outcome, Met}

-- with xs to be written over out, for which there is so much room
module _ (xs out : List ℕ) (room : ℕ) where
  -- what is not good is answered so, and nothing is written
  pub refused_in_room : (x : Error) (s : Said) → said (Err x) ≡ s → Met (outcome s xs room) out (said (Err x)) out
  refused_in_room x s e = subst (λ (y : Said). Met (outcome y xs room) out (said (Err x)) out) e (by_error x) where
    by_error : (x : Error) → Met (outcome (said (Err x)) xs room) out (said (Err x)) out
    by_error (Refused why k) = record { answer = refl; output = refl }
    by_error (Short n) = record { answer = refl; output = refl }

  pub short_in_room : (n k : ℕ) (s : Said) → s ≡ good n → k ≡ length xs → k < numbers → room < length xs → Met (outcome s xs room) out (short k) out
  short_in_room n k s e l b h =
      let fits : length xs < numbers = omega arith in
      let o : outcome s xs room ≡ record { answer = short (length xs); output = [] } = ap (λ (x : Said). outcome x xs room) e ∙ simp tests in
      subst (λ (p : Outcome). Met p out (short k) out) (sym o) (record { answer = ap short l; output = refl })

  -- more octets than a number has room for are never lent
  pub beyond_in_room : (n : ℕ) (s : Said) → s ≡ good n → numbers ≤ length xs → room < numbers → Met (outcome s xs room) out (short (numbers - 1)) out
  beyond_in_room n s e b h =
      let less : room < length xs = omega arith in
      let o : outcome s xs room ≡ record { answer = short (numbers - 1); output = [] } = ap (λ (x : Said). outcome x xs room) e ∙ simp tests in
      subst (λ (p : Outcome). Met p out (short (numbers - 1)) out) (sym o) (record { answer = refl; output = refl })

  pub good_in_room : (n k : ℕ) (s : Said) {out' : List ℕ} → s ≡ good n → k ≡ length xs → length xs ≤ room → out' ≡ over xs out
      → Met (outcome s xs room) out (good k) out'
  good_in_room n k s {out'} e l h w =
      let o : outcome s xs room ≡ record { answer = good (length xs); output = xs } = ap (λ (x : Said). outcome x xs room) e ∙ simp tests in
      subst (λ (p : Outcome). Met p out (good k) out') (sym o) (record { answer = ap good l; output = w })

-- and in room for just what out has
module _ (xs out : List ℕ) where
  pub met_refused : (x : Error) (s : Said) → said (Err x) ≡ s → Met (outcome s xs (length out)) out (said (Err x)) out
  met_refused = refused_in_room xs out (length out)

  pub met_short : (n k : ℕ) (s : Said) → s ≡ good n → k ≡ length xs → k < numbers → length out < length xs → Met (outcome s xs (length out)) out (short k) out
  met_short = short_in_room xs out (length out)

  pub met_beyond : (n : ℕ) (s : Said) → s ≡ good n → numbers ≤ length xs → length out < numbers → Met (outcome s xs (length out)) out (short (numbers - 1)) out
  met_beyond = beyond_in_room xs out (length out)

  pub met_good : (n k : ℕ) (s : Said) {out' : List ℕ} → s ≡ good n → k ≡ length xs → length xs ≤ length out → out' ≡ over xs out
      → Met (outcome s xs (length out)) out (good k) out'
  met_good = good_in_room xs out (length out)

module _ (xs out : List ℕ) (room : ℕ) where
  -- the answer tells whether anything is written
  abbrev Answers : Result ℕ Error → Said → Type 0
  Answers a s = said a ≡ (outcome s xs room).answer

  not_good : (x : Error) (n : ℕ) → said (Err x) ≡ good n → ⊥
  not_good (Refused why k) n e = never (cc)
  not_good (Short k) n e = never (cc)

  pub met_unwritten : (x : Error) (s : Said) → Answers (Err x) s → Met (outcome s xs room) out (said (Err x)) out
  met_unwritten x (refused q k) e = record { answer = e; output = refl }
  met_unwritten x (short n) e = record { answer = e; output = refl }
  met_unwritten x (good n) e =
      by_test (λ (p : Outcome). said (Err x) ≡ p.answer → Met p out (said (Err x)) out) (ltb room (length xs))
      (λ l w. record { answer = w; output = refl }) (λ l w. absurd (not_good x (length xs) w)) e

  -- what follows from the answer that it is written: there is room, and it is all that is to be done
  pub record Fitting (p : Outcome) (k : ℕ) : Type 0 where
    pub room-enough : length xs ≤ room
    pub met-written : (out' : List ℕ) → out' ≡ over xs out → Met p out (good k) out'

  pub fitting : (k : ℕ) (s : Said) → Answers (Ok k) s → Fitting (outcome s xs room) k
  fitting k (refused q i) e = let z : good k ≡ refused q i = e in never (cc)
  fitting k (short n) e = let z : good k ≡ short n = e in never (cc)
  fitting k (good n) e =
      by_test (λ (p : Outcome). good k ≡ p.answer → Fitting p k) (ltb room (length xs))
      (λ l w. let z : good k ≡ short (told (length xs)) = w in never (cc))
      (λ l w. record { room-enough = ltb-false _ _ l; met-written = λ out' q. record { answer = w; output = q } }) e

-- what is answered goes by the length alone
either : (t : Bool) (a b : Said) (xs ys : List ℕ)
    → (cond {A = Outcome} t (record { answer = a; output = [] }) (record { answer = b; output = xs })).answer
    ≡ (cond {A = Outcome} t (record { answer = a; output = [] }) (record { answer = b; output = ys })).answer
either true a b xs ys = refl
either false a b xs ys = refl

pub by_length : (t : Said) (xs ys : List ℕ) (room : ℕ) → length xs ≡ length ys → (outcome t xs room).answer ≡ (outcome t ys room).answer
by_length (good n) xs ys room e = rw e (either (ltb room (length ys)) _ _ xs ys)
by_length (refused q k) xs ys room e = refl
by_length (short n) xs ys room e = refl
