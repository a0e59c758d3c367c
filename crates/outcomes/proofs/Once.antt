-- What is told gives the answer and the record back, so no second answer meets a promise of this crate or of those above.
-- Assumes nothing.
use mathlib.Core.Path.{◌≡◌, sym, ap, ap₂, ◌∙◌}
use Rattle.faults.specs.declared.Fault.{Fault}
use Rattle.receiver_answers.specs.declared.Answer.{Answer}
use Rattle.receiver_answers.specs.declared.Drop.{Drop}
use Rattle.receiver_answers.specs.declared.Refusal.TheVariants.{Head}
use Rattle.receiver_answers.specs.Answers.{said, dropped, refused}
use Rattle.receiver_answers.proofs.Once.{said_one}
use Rattle.receiver_record.specs.declared.Record.{Record}
use Rattle.outcomes.specs.declared.Received.{Received}
use Rattle.outcomes.specs.Outcomes.{Step, told, strays, unchanged, abandoned}

-- what is told gives the answer and the record back
pub told_one : {x y : Received} → told x ≡ told y → x ≡ y
told_one {x} {y} e =
    let answers : x.answer ≡ y.answer = said_one (ap (λ (t : Step). t.said) e) in
    ap₂ (λ (a : Answer) (r : Record). record { answer = a; after = r }) answers (ap (λ (t : Step). t.after) e)

-- strayed
pub strayed_once : (a : Answer) (r : Record) {x y : Received} → told x ≡ strays (said a) r → told y ≡ strays (said a) r → x ≡ y
strayed_once a r p q = told_one (p ∙ sym q)

-- abandoned
pub abandoned_once : (why : Drop) (r : Record) {x y : Received} → told x ≡ abandoned (dropped why) r → told y ≡ abandoned (dropped why) r → x ≡ y
abandoned_once why r p q = told_one (p ∙ sym q)

-- refuse
pub refuse_once : (why : Fault) (r : Record) {x y : Received} → told x ≡ unchanged (refused (Head why)) r → told y ≡ unchanged (refused (Head why)) r → x ≡ y
refuse_once why r p q = told_one (p ∙ sym q)
