-- Refusals and drops have numbers from 10 on.
-- Assumes nothing.
use Prim.Native.Nat.{◌≤◌}
use native.Mathlib.Omega.{arith}
use Rattle.faults.specs.declared.Fault.TheVariants as F
use Rattle.receiver_answers.specs.declared.Refusal.{Refusal}
use Rattle.receiver_answers.specs.declared.Refusal.TheVariants as R
use Rattle.receiver_answers.specs.declared.Drop.{Drop}
use Rattle.receiver_answers.specs.declared.Drop.TheVariants as D
use Rattle.receiver_answers.specs.Answers.{refusal_number, drop_number}

pub refusal_from_ten : (why : Refusal) → 10 ≤ refusal_number why
refusal_from_ten R.Buffer = omega arith
refusal_from_ten R.Record = omega arith
refusal_from_ten (R.Head F.Short) = omega arith
refusal_from_ten (R.Head F.Long) = omega arith
refusal_from_ten (R.Head F.Preamble) = omega arith
refusal_from_ten (R.Head (F.Delimiter bits)) = omega arith
refusal_from_ten (R.Head F.Fragment) = omega arith

pub drop_from_ten : (why : Drop) → 10 ≤ drop_number why
drop_from_ten D.Express = omega arith
drop_from_ten D.Heard = omega arith
drop_from_ten D.Closed = omega arith
drop_from_ten D.Count = omega arith
drop_from_ten D.Over = omega arith
drop_from_ten D.Damaged = omega arith
