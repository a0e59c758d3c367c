-- No second answer, and no other octets, meet a promise of this crate.
-- Assumes nothing.
use mathlib.Core.Path.{◌≡◌, refl, sym, ap, ◌∙◌}
use mathlib.Core.Bool.{cond}
use lib.Dec.{eqb}
use Rattle.std.specs.Prelude.{Result, Ok, Err}
use Rattle.receiver_answers.specs.declared.Refusal.{Refusal as First}
use Rattle.receiver_answers.specs.Answers.{refused, says}
use Rattle.receiver_answers.proofs.Once.{refused_one}
use Rattle.stream.specs.declared.Refusal.{Refusal}
use Rattle.stream.specs.declared.Refusal.TheVariants as R
use mathlib.Core.List.{List}
use Prim.Native.Nat.{ℕ}
use lib.ListN.{length}
use Rattle.stream.specs.declared.State.{State}
use Rattle.stream_words.specs.State.{state_of, told, refusal_of, Keeping, Octet, too_long}

-- state_of
pub state_of_once : (w : List ℕ) {x y : State} → x ≡ state_of w → y ≡ state_of w → x ≡ y
state_of_once w p q = p ∙ sym q

-- what is told gives the answer back
untold : ℕ → Result (Unit {0}) Refusal
untold n = cond (eqb n 0) (Ok tt) (cond (eqb n 18) (Err R.Area) (Err R.State))

back : (x : Result (Unit {0}) Refusal) → untold (told x) ≡ x
unfolding untold
back (Ok tt) = refl
back (Err R.Area) = refl
back (Err R.State) = refl

told_one : {x y : Result (Unit {0}) Refusal} → told x ≡ told y → x ≡ y
told_one {x} {y} e = sym (back x) ∙ ap untold e ∙ back y

-- refusal
pub refusal_once : (w : List ℕ) (room : ℕ) {x y : Result (Unit {0}) Refusal} → told x ≡ refusal_of w room → told y ≡ refusal_of w room → x ≡ y
refusal_once w room p q = told_one (p ∙ sym q)

-- octet, in numbers as C is told, and as the answer that it is
pub octet_once : (k : Keeping) {m n : ℕ} {v w x y : List ℕ} → Octet k m v x → Octet k n w y → (m ≡ n) × ((v ≡ w) × (x ≡ y))
octet_once k p q = (p.answer ∙ sym q.answer, (p.state ∙ sym q.state, p.octets ∙ sym q.octets))

pub octet_answer_once : (k : Keeping) {m n : Result (Unit {0}) Refusal} {v w x y : List ℕ} → Octet k (told m) v x → Octet k (told n) w y
    → (m ≡ n) × ((v ≡ w) × (x ≡ y))
octet_answer_once k p q = let e = octet_once k p q in (told_one e.0, e.1)

-- number_of
pub number_of_once : (answer : Result (Unit {0}) Refusal) {x y : ℕ} → x ≡ told answer → y ≡ told answer → x ≡ y
number_of_once answer p q = p ∙ sym q

-- too_long
pub too_long_once : (w : List ℕ) (room : ℕ) {x y : First} → (refused x ≡ says (too_long w room) 0) × (length w ≡ 9)
    → (refused y ≡ says (too_long w room) 0) × (length w ≡ 9) → x ≡ y
too_long_once w room p q = refused_one (p.0 ∙ sym q.0)
