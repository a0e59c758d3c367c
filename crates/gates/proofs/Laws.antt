-- How a call on a list ends: refused, short of room, or written.
-- Assumes nothing.
use mathlib.Core.Path.{◌≡◌, refl, sym, ap, ap₂, ◌∙◌, subst}
use mathlib.Core.Bool.{Bool, true, false, cond}
use mathlib.Core.List.{List, []}
use Prim.Native.Nat.{ℕ, ◌≤◌, ◌<◌}
use native.Mathlib.Omega.{arith}
use lib.Dec.{ltb}
use lib.ListN.{length}
use Rattle.rules.proofs.Tests.{tests}
use Rattle.octets.specs.Laid.{over}
use Rattle.gate_lists.specs.Lists.{Said, good, refused, short, number_of, value_of, of_octets, entries_from}
use Rattle.gate_lists.proofs.Contents.{length_from}
use Rattle.gate_lists.proofs.Good.{not_good}
use Rattle.gates.specs.Gates.{Outcome, outcome, Met, entries_in, entries_of}

short_not_good : (k n : ℕ) → short k ≡ good n → ⊥
short_not_good k n e = let z : ◌≡◌ {A = ℕ} 64 0 = ap number_of e in absurd (let y : ⊥ = omega arith in y)

module _ {A : Type 0} (xs out : List A) where
  pub met_short : (n k : ℕ) (s : Said) → s ≡ good n → k ≡ length xs → length out < length xs → Met (outcome s xs (length out)) out (short k) out
  met_short n k s e l h =
      let o : outcome s xs (length out) ≡ record { answer = short (length xs); output = [] } =
      ap (λ (x : Said). outcome x xs (length out)) e ∙ simp tests in
      subst (λ (p : Outcome A). Met p out (short k) out) (sym o) (record { answer = ap short l; output = refl })

  pub met_good : (n k : ℕ) (s : Said) {out' : List A} → s ≡ good n → k ≡ length xs → length xs ≤ length out → out' ≡ over xs out
      → Met (outcome s xs (length out)) out (good k) out'
  met_good n k s {out'} e l h w =
      let o : outcome s xs (length out) ≡ record { answer = good (length xs); output = xs } =
      ap (λ (x : Said). outcome x xs (length out)) e ∙ simp tests in
      subst (λ (p : Outcome A). Met p out (good k) out') (sym o) (record { answer = ap good l; output = w })

-- a call that wrote something: the list is good, and all of it is at the output's front
pub record Wrote {A : Type 0} (s : Said) (xs out : List A) (n : ℕ) (out' : List A) : Type 0 where
  pub entries : ℕ
  pub judged : s ≡ good entries
  pub count : n ≡ length xs
  pub output : out' ≡ over xs out

module _ {A : Type 0} (xs out : List A) (n : ℕ) (out' : List A) where
  room_or : (k : ℕ) (b : Bool) → (o : Outcome A)
      → o ≡ cond b (record { answer = short (length xs); output = [] }) (record { answer = good (length xs); output = xs })
      → Met o out (good n) out' → Wrote (good k) xs out n out'
  room_or k true o e m = absurd (short_not_good (length xs) n (sym (m.answer ∙ ap (λ (x : Outcome A). x.answer) e)))
  room_or k false o e m =
      record {
        entries = k;
        judged = refl;
        count = ap value_of (m.answer ∙ ap (λ (x : Outcome A). x.answer) e);
        output = m.output ∙ ap (λ (x : Outcome A). over x.output out) e;
      }

  pub wrote : (s : Said) → Met (outcome s xs (length out)) out (good n) out' → Wrote s xs out n out'
  wrote (good k) m = room_or k (ltb (length out) (length xs)) (outcome (good k) xs (length out)) refl m
  wrote (refused q k) m = absurd (let z : ⊥ = not_good q k n (sym m.answer) in z)
  wrote (short k) m = absurd (short_not_good k n (sym m.answer))

-- a good list and room for it: all is written
pub room : {A : Type 0} (xs ys out : List A) (k : ℕ) (s a : Said) (out' : List A) → s ≡ good k → xs ≡ ys → length ys ≤ length out
    → Met (outcome s xs (length out)) out a out' → (a ≡ good (length ys)) × (out' ≡ over ys out)
room xs ys out k s a out' g e h m =
    let o : outcome s xs (length out) ≡ record { answer = good (length ys); output = ys } =
    ap₂ (λ (x : Said) (l : List _). outcome x l (length out)) g e ∙ simp tests in
    (m.answer ∙ ap (λ (x : Outcome _). x.answer) o, m.output ∙ ap (λ (x : Outcome _). over x.output out) o)

-- the entries of a good list
pub entries_of_lem : (s : List ℕ) (n : ℕ) → of_octets s ≡ good n → entries_of s ≡ entries_from n s 0
entries_of_lem s n e = ap (λ (x : Said). entries_in x s) e

pub count_of : (s : List ℕ) (n : ℕ) → of_octets s ≡ good n → n ≡ length (entries_of s)
count_of s n e = sym (ap length (entries_of_lem s n e) ∙ length_from n s 0)
