-- The numbered answers of document 01, "Receiving", a case a line. The detail is "body length for 0 and 1, octets kept for 2, bits for 15,
-- else 0". Assumes nothing.
use Rattle.std.specs.Prelude.{ℕ}
use Rattle.faults.specs.Faults.{fault_number, fault_detail}
use Rattle.receiver_answers.specs.declared.Refusal.{Refusal}
use Rattle.receiver_answers.specs.declared.Refusal.TheVariants as R
use Rattle.receiver_answers.specs.declared.Drop.{Drop}
use Rattle.receiver_answers.specs.declared.Drop.TheVariants as D
use Rattle.receiver_answers.specs.declared.Answer.{Answer}
use Rattle.receiver_answers.specs.declared.Answer.TheVariants as A

-- an answer as the paper gives it
pub record Said : Type 0 where
  pub number : ℕ
  pub detail : ℕ

abbrev pub says : ℕ → ℕ → Said
says number detail = record { number = number; detail = detail }

-- 12 to 15 and 17 are those of the head
abbrev pub refusal_number : Refusal → ℕ
refusal_number R.Buffer = 10
refusal_number R.Record = 11
refusal_number (R.Head fault) = fault_number fault

abbrev pub refusal_detail : Refusal → ℕ
refusal_detail R.Buffer = 0
refusal_detail R.Record = 0
refusal_detail (R.Head fault) = fault_detail fault

abbrev pub drop_number : Drop → ℕ
drop_number D.Express = 20
drop_number D.Heard = 21
drop_number D.Closed = 22
drop_number D.Count = 23
drop_number D.Over = 24
drop_number D.Damaged = 25

abbrev pub refused : Refusal → Said
refused why = says (refusal_number why) (refusal_detail why)

abbrev pub dropped : Drop → Said
dropped why = says (drop_number why) 0

abbrev pub said : Answer → Said
said (A.Express n) = says 0 n
said (A.Delivered n) = says 1 n
said (A.Kept n) = says 2 n
said A.VerifyHeard = says 3 0
said A.RespondHeard = says 4 0
said (A.Refused why) = refused why
said (A.Dropped why) = dropped why
