-- Answers told in the paper's numbers: what is told gives the answer back, so no second answer meets a promise of this crate.
-- Assumes nothing.
use mathlib.Core.Path.{◌≡◌, refl, sym, ap, ◌∙◌}
use mathlib.Core.Bool.{cond}
use Prim.Native.Nat.{ℕ}
use lib.Dec.{eqb, ltb}
use Rattle.faults.specs.declared.Fault.TheVariants.{Short, Long, Preamble, Delimiter, Fragment}
use Rattle.faults.proofs.Once.{fault_of}
use Rattle.receiver_answers.specs.declared.Refusal.{Refusal}
use Rattle.receiver_answers.specs.declared.Refusal.TheVariants.{Buffer, Record as Range, Head}
use Rattle.receiver_answers.specs.declared.Drop.{Drop}
use Rattle.receiver_answers.specs.declared.Drop.TheVariants as D
use Rattle.receiver_answers.specs.declared.Answer.{Answer}
use Rattle.receiver_answers.specs.declared.Answer.TheVariants as A
use Rattle.receiver_answers.specs.Answers.{Said, said, refusal_number, refused}

-- the answer, from what it is told as
refusal : ℕ → ℕ → Refusal
refusal k bits = cond (eqb k 10) Buffer (cond (eqb k 11) Range (Head (fault_of k bits)))

drop : ℕ → Drop
drop k =
    cond (eqb k 20) D.Express
    (cond (eqb k 21) D.Heard (cond (eqb k 22) D.Closed (cond (eqb k 23) D.Count (cond (eqb k 24) D.Over D.Damaged))))

unsaid : Said → Answer
unsaid s =
    cond (eqb s.number 0) (A.Express s.detail)
    (cond (eqb s.number 1) (A.Delivered s.detail)
    (cond (eqb s.number 2) (A.Kept s.detail)
    (cond (eqb s.number 3) A.VerifyHeard
    (cond (eqb s.number 4) A.RespondHeard
    (cond (ltb s.number 20) (A.Refused (refusal s.number s.detail)) (A.Dropped (drop s.number)))))))

back : (a : Answer) → unsaid (said a) ≡ a
unfolding unsaid refusal drop fault_of
back (A.Express n) = refl
back (A.Delivered n) = refl
back (A.Kept n) = refl
back A.VerifyHeard = refl
back A.RespondHeard = refl
back (A.Refused Buffer) = refl
back (A.Refused Range) = refl
back (A.Refused (Head Short)) = refl
back (A.Refused (Head Long)) = refl
back (A.Refused (Head Preamble)) = refl
back (A.Refused (Head (Delimiter bits))) = refl
back (A.Refused (Head Fragment)) = refl
back (A.Dropped D.Express) = refl
back (A.Dropped D.Heard) = refl
back (A.Dropped D.Closed) = refl
back (A.Dropped D.Count) = refl
back (A.Dropped D.Over) = refl
back (A.Dropped D.Damaged) = refl

pub said_one : {a b : Answer} → said a ≡ said b → a ≡ b
said_one {a} {b} e = sym (back a) ∙ ap unsaid e ∙ back b

-- a refusal, by its number and detail
pub refused_one : {a b : Refusal} → refused a ≡ refused b → a ≡ b
refused_one {a} {b} e = ap why (said_one {a = A.Refused a} {b = A.Refused b} e)
  where
    why : Answer → Refusal
    why (A.Refused w) = w
    why _ = Buffer

pub refusal_number_once : (why : Refusal) {x y : ℕ} → x ≡ refusal_number why → y ≡ refusal_number why → x ≡ y
refusal_number_once why p q = p ∙ sym q

-- number and detail
pub number_once : (a : Answer) {x y : ℕ} → x ≡ (said a).number → y ≡ (said a).number → x ≡ y
number_once a p q = p ∙ sym q

pub detail_once : (a : Answer) {x y : ℕ} → x ≡ (said a).detail → y ≡ (said a).detail → x ≡ y
detail_once a p q = p ∙ sym q
