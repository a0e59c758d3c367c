-- What is told of an answer gives the answer back, so no second answer meets a promise that tells it.
-- Assumes nothing.
use mathlib.Core.Path.{◌≡◌, refl, sym, ap, ◌∙◌}
use mathlib.Core.Bool.{cond}
use mathlib.Core.List.{List}
use Prim.Native.Nat.{ℕ}
use lib.Dec.{eqb}
use Rattle.std.specs.Prelude.{Result, Ok, Err}
use Rattle.sender_answers.specs.Answers.{Said, wrote, refused, number, said, Outcome, Answered}
use Rattle.sender_answers.specs.declared.Refusal.{Refusal}
use Rattle.sender_answers.specs.declared.Refusal.TheVariants.{Output, Record, Body, Length, Hold}
use Rattle.sender_answers.specs.declared.Written.{Written}

-- the answer of a sending call, from what it is told as
unsaid : Said → Result Written Refusal
unsaid (wrote n done) = Ok (record { length = n; done = done })
unsaid (refused k) =
    Err (cond (eqb k 30) Output (cond (eqb k 31) Record (cond (eqb k 32) Body (cond (eqb k 33) Length Hold))))

back : (a : Result Written Refusal) → unsaid (said a) ≡ a
unfolding unsaid
back (Ok w) = refl
back (Err Output) = refl
back (Err Record) = refl
back (Err Body) = refl
back (Err Length) = refl
back (Err Hold) = refl

pub said_one : {a b : Result Written Refusal} → said a ≡ said b → a ≡ b
said_one {a} {b} e = sym (back a) ∙ ap unsaid e ∙ back b

-- a call with no record: no second answer, and no other octets
pub answered_once : (o : Outcome) (out : List ℕ) {a b : Result Written Refusal} {x y : List ℕ} → Answered o out a x → Answered o out b y → (a ≡ b) × (x ≡ y)
answered_once o out p q = (said_one (p.answer ∙ sym q.answer), p.octets ∙ sym q.octets)

-- the numbers of the refusals
pub number_once : (q : Refusal) {x y : ℕ} → x ≡ number q → y ≡ number q → x ≡ y
number_once q p s = p ∙ sym s
