-- An answer of the receiver handed on as an event.
-- Assumes nothing.
use Rattle.std.specs.Prelude.{cond, ℕ}
use Rattle.std.proofs.Math.Option.{Option, some, none}
use Rattle.receiver_answers.specs.declared.Answer.{Answer}
use Rattle.receiver_answers.specs.declared.Answer.TheVariants as A
use Rattle.verify.specs.declared.Event.{Event}
use Rattle.verify.specs.declared.Event.TheVariants as E
use Rattle.event_words.specs.Events.{is_event, event_of}

-- the event that a number is, with a wait beside it, if any
abbrev pub event_at : ℕ → ℕ → Option Event
event_at n wait = cond (is_event n) (some (event_of n wait)) none

-- the event that an answer tells: a V or an R heard, and nothing else
abbrev pub heard_by : Answer → Option Event
heard_by (A.Express n) = none
heard_by (A.Delivered n) = none
heard_by (A.Kept n) = none
heard_by A.VerifyHeard = some E.VerifyHeard
heard_by A.RespondHeard = some E.ResponseHeard
heard_by (A.Refused why) = none
heard_by (A.Dropped why) = none
