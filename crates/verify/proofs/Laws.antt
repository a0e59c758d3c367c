-- Laws of the table of events: which records are taken, and which are refused.
-- Assumes nothing.
use mathlib.Core.Path.{◌≡◌}
use mathlib.Core.Bool.{true, false}
use Rattle.verify_record.specs.Ranges.{in_range}
use Rattle.verify_record.specs.declared.Record.{Record}
use Rattle.verify_answers.specs.Answers.{refuses}
use Rattle.verify.specs.Verify.{effect, step_of}
use Rattle.verify.specs.declared.Event.{Event}

-- a record in range is taken, any other is handed back
pub step_taken : (r : Record) (e : Event) → in_range r ≡ true → step_of r e ≡ effect e r
unfolding step_of
step_taken r e h = simp h

pub step_refused : (r : Record) (e : Event) → in_range r ≡ false → step_of r e ≡ refuses 40 r
unfolding step_of
step_refused r e h = simp h
