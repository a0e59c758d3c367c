-- No second answer, state or record, and no other octets, meet a promise of this crate.
-- Assumes nothing.
use mathlib.Core.Path.{◌≡◌, refl, sym, ap, ◌∙◌}
use mathlib.Core.Bool.{Bool, cond}
use mathlib.Core.List.{List}
use Prim.Native.Nat.{ℕ}
use native.Mathlib.Omega.{arith}
use lib.Dec.{eqb}
use Rattle.receiver_answers.specs.Answers.{Said, says}
use Rattle.receiver_answers.proofs.Once.{said_one}
use Rattle.rules.proofs.Tests.{never}
use Rattle.stream.specs.declared.State.{State}
use Rattle.stream.specs.declared.Refusal.{Refusal}
use Rattle.stream.specs.declared.Refusal.TheVariants as R
use Rattle.std.specs.Prelude.{Option, Some, None, Result, Ok, Err}
use Rattle.receiver_answers.specs.declared.Answer.{Answer}
use Rattle.stream.specs.declared.Streamed.{Streamed}
use Rattle.stream.specs.Stream.{number, unsound, runs_over, counted, stored, Saying, waits, refuses, answers, saying, Turn, Streams}

-- Refusal::number
pub number_once : (why : Refusal) {x y : ℕ} → x ≡ number why → y ≡ number why → x ≡ y
number_once why p q = p ∙ sym q

-- State::is_unsound
pub is_unsound_once : (s : State) {x y : Bool} → x ≡ unsound s → y ≡ unsound s → x ≡ y
is_unsound_once s p q = p ∙ sym q

-- keep: the state, and each octet of the area
pub keep_once : (octet : ℕ) (s : State) (area : List ℕ) {x y : State} {p q : List ℕ} → (x ≡ counted s) × (p ≡ stored octet s area)
    → (y ≡ counted s) × (q ≡ stored octet s area) → (x ≡ y) × (p ≡ q)
keep_once octet s area f g = (f.0 ∙ sym g.0, f.1 ∙ sym g.1)

-- no two replies are told alike
refusal_of : ℕ → Refusal
refusal_of n = cond (eqb n 18) R.Area R.State

refusal_back : (why : Refusal) → refusal_of (number why) ≡ why
unfolding refusal_of
refusal_back R.Area = refl
refusal_back R.State = refl

-- whether it waits, the number of its own refusal, and the answer
abbrev speaks : Saying → ℕ
speaks waits = 0
speaks (refuses n) = 1
speaks (answers s) = 1

abbrev refusing : Saying → ℕ
refusing waits = 1
refusing (refuses n) = n
refusing (answers s) = 0

abbrev answering : Saying → Said
answering waits = says 0 0
answering (refuses n) = says 1 0
answering (answers s) = s

saying_one : (x y : Result (Option Answer) Refusal) → saying x ≡ saying y → x ≡ y
saying_one (Ok None) (Ok None) e = refl
saying_one (Ok None) (Err w) e = never (ap speaks e)
saying_one (Ok None) (Ok (Some b)) e = never (ap speaks e)
saying_one (Err v) (Ok None) e = never (ap speaks (sym e))
saying_one (Err v) (Err w) e = ap Err (sym (refusal_back v) ∙ ap refusal_of (ap refusing e) ∙ refusal_back w)
saying_one (Err R.Area) (Ok (Some b)) e = absurd (let n : 18 ≡ 0 = ap refusing e in let y : ⊥ = omega arith in y)
saying_one (Err R.State) (Ok (Some b)) e = absurd (let n : 19 ≡ 0 = ap refusing e in let y : ⊥ = omega arith in y)
saying_one (Ok (Some a)) (Ok None) e = never (ap speaks (sym e))
saying_one (Ok (Some a)) (Err R.Area) e = absurd (let n : 0 ≡ 18 = ap refusing e in let y : ⊥ = omega arith in y)
saying_one (Ok (Some a)) (Err R.State) e = absurd (let n : 0 ≡ 19 = ap refusing e in let y : ⊥ = omega arith in y)
saying_one (Ok (Some a)) (Ok (Some b)) e = ap (λ (x : Answer). Ok (Some x)) (said_one (ap answering e))

-- runs_over
pub runs_over_once : (more : Bool) (kept : List ℕ) {x y : Bool} → x ≡ runs_over more kept → y ≡ runs_over more kept → x ≡ y
runs_over_once more kept p q = p ∙ sym q

-- stream: the reply, the state, the record, and each octet of the area and of the buffer
pub stream_once : (t : Turn) {x y : Streamed} {p q c d : List ℕ} → Streams t x p c → Streams t y q d → (x ≡ y) × ((p ≡ q) × (c ≡ d))
stream_once t {x} {y} f g =
    let reply = saying_one x.reply y.reply (f.reply ∙ sym g.reply) in
    let state = f.state ∙ sym g.state in
    let after = f.after ∙ sym g.after in
    (λ i. record { reply = reply i; state = state i; after = after i }, (f.area ∙ sym g.area, f.buffer ∙ sym g.buffer))
