-- No second answer meets a promise of this crate.
-- Assumes nothing.
use mathlib.Core.Path.{◌≡◌, refl, sym, ap, ◌∙◌}
use mathlib.Core.Bool.{Bool, cond}
use Prim.Native.Nat.{ℕ}
use lib.Dec.{eqb}
use Rattle.std.specs.Prelude.{Result, Ok, Err}
use Rattle.verify_answers.specs.Answers.{number, Said, said, Told, told}
use Rattle.verify_answers.specs.declared.Refusal.{Refusal}
use Rattle.verify_answers.specs.declared.Refusal.TheVariants as Why
use Rattle.verify_answers.specs.declared.Stepped.{Stepped}

-- no two answers are said alike: what is said gives the answer back
abbrev unsaid : Said → Result Bool Refusal
unsaid s = cond (eqb s.number 0) (Ok s.ordered) (Err (cond (eqb s.number 40) Why.Record Why.Wait))

back : (a : Result Bool Refusal) → unsaid (said a) ≡ a
back (Ok v) = refl
back (Err Why.Record) = refl
back (Err Why.Wait) = refl

said_once : (a b : Result Bool Refusal) → said a ≡ said b → a ≡ b
said_once a b e = sym (back a) ∙ ap unsaid e ∙ back b

-- Refusal::number
pub number_once : (why : Refusal) {x y : ℕ} → x ≡ number why → y ≡ number why → x ≡ y
number_once why p q = p ∙ sym q

-- where a promise tells the answer in the papers' numbers and the record after it, no second one meets it
pub told_once : (t : Told) {x y : Stepped} → told x ≡ t → told y ≡ t → x ≡ y
told_once t {x} {y} p q =
    let same = p ∙ sym q in
    let a : x.answer ≡ y.answer = said_once x.answer y.answer (λ i. (same i).said) in
    λ i. record { answer = a i; after = (same i).after }
