-- What is known where neither 18 nor 19 is told; that a state is read back from its words; and that an octet told in words is the call of `stream`.
-- Assumes nothing.
use mathlib.Core.Path.{◌≡◌, refl, sym}
use mathlib.Core.Bool.{Bool, true, false, cond, ◌||◌}
use mathlib.Core.List.{List, [], ◌∷◌}
use Prim.Native.Nat.{ℕ, ◌+◌, ◌≤◌}
use native.Mathlib.Omega.{arith}
use borrow.Author.Tests.{le-ltb, ltb-false}
use lib.Dec.{eqb, ltb}
use lib.ListN.{length}
use Rattle.receiver_record.specs.declared.Record.{Record}
use Rattle.std.specs.Prelude.{Some, Result, Ok, Err}
use Rattle.stream.specs.declared.State.{State}
use Rattle.stream.specs.declared.Refusal.{Refusal}
use Rattle.stream.specs.declared.Refusal.TheVariants as R
use Rattle.stream.specs.Stream.{most, number, unsound, counted, Saying, waits, refuses, answers, Turn, stream_of}
use Rattle.words.specs.Words.{word}
use Rattle.words.proofs.Laws.{flag_read, flag_written}
use Rattle.stream_words.specs.State.{state_of, state_words, told, refusal_of, counted_words, Keeping, octet_of}

-- a state is read back from its words
pub state_read : (s : State) → state_of (state_words s) ≡ s
state_read s = simp (flag_read s.more)

pub record Passed (w : List ℕ) (room : ℕ) : Type 0 where
  pub roomy : most ≤ room
  pub sound : unsound (state_of w) ≡ false

pub passed : (w : List ℕ) (room : ℕ) → refusal_of w room ≡ 0 → Passed w room
unfolding refusal_of
passed w room e = go (ltb room most) (ltb 1 (word w 1)) (unsound (state_of w)) refl refl refl e
  where
    go : (x y z : Bool) → ltb room most ≡ x → ltb 1 (word w 1) ≡ y → unsound (state_of w) ≡ z → ◌≡◌ {A = ℕ} (cond x 18 (cond (y || z) 19 0)) 0 → Passed w room
    go true y z p q r n = absurd (let v : ⊥ = omega arith in v)
    go false true z p q r n = absurd (let v : ⊥ = omega arith in v)
    go false false true p q r n = absurd (let v : ⊥ = omega arith in v)
    go false false false p q r n = record { roomy = ltb-false _ _ p; sound = r }

-- no refusal is numbered 0, and what is none is told as 0
pub some : (why : Refusal) → number why ≡ 0 → ⊥
some R.Area e = let y : ⊥ = omega arith in y
some R.State e = let y : ⊥ = omega arith in y

pub none : {T : Type 0} (x : Result T Refusal) → ((why : Refusal) → x ≡ Err why → ⊥) → told x ≡ 0
none (Ok y) h = refl
none (Err why) h = absurd (h why refl)

-- the words of a state that is read from two words, and those after an octet, where the second is a flag
pub state_written : (n f : ℕ) → f ≤ 1 → state_words (state_of (n ∷ f ∷ [])) ≡ n ∷ f ∷ []
state_written n f h = simp (flag_written f h)

counted_written : (n f : ℕ) → f ≤ 1 → counted_words (n ∷ f ∷ []) ≡ state_words (counted (state_of (n ∷ f ∷ [])))
counted_written n f h = go (ltb n most)
  where
    go : (b : Bool) → cond b ((n + 1) ∷ f ∷ []) (n ∷ 1 ∷ [])
        ≡ state_words (cond b (record { count = n + 1; more = eqb f 1 }) (record { count = n; more = true }))
    go true = simp (flag_written f h)
    go false = refl

-- a reply by its number, 0 where it waits, and its detail
abbrev pub number_of : Saying → ℕ
number_of waits = 0
number_of (refuses n) = n
number_of (answers s) = s.number

abbrev pub detail_of : Saying → ℕ
detail_of waits = 0
detail_of (refuses n) = 0
detail_of (answers s) = s.detail

-- an octet in words, where they are a state's, is an octet of `stream`, whatever the record and the buffer
pub record Same (k : Keeping) (t : Turn) : Type 0 where
  pub number : k.number ≡ number_of t.reply
  pub state : k.stream ≡ state_words t.state
  pub area : k.area ≡ t.area

pub octet_streamed : (n f : ℕ) (area : List ℕ) (x : ℕ) (r : Record) (b : List ℕ) → f ≤ 1
    → Same (octet_of (n ∷ f ∷ []) area x) (stream_of (Some x) (state_of (n ∷ f ∷ [])) area r b)
unfolding octet_of refusal_of stream_of
octet_streamed n f area x r b h = by (ltb (length area) most) (unsound (state_of (n ∷ f ∷ []))) refl refl
  where
    by : (short bad : Bool) → ltb (length area) most ≡ short → unsound (state_of (n ∷ f ∷ [])) ≡ bad
        → Same (octet_of (n ∷ f ∷ []) area x) (stream_of (Some x) (state_of (n ∷ f ∷ [])) area r b)
    by true bad p q = simp p (record { number = refl; state = sym (state_written n f h); area = refl })
    by false true p q = simp (p, q, le-ltb 1 f h) (record { number = refl; state = sym (state_written n f h); area = refl })
    by false false p q = simp (p, q, le-ltb 1 f h) (record { number = refl; state = counted_written n f h; area = refl })
