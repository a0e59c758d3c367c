-- The events of the verification by number, an enable with the wait beside it. What was heard has the number of the receiver's answer that tells it,
-- so that the answer can be handed on; the others have numbers that no answer has.
-- Assumes nothing.
use Rattle.std.specs.Prelude.{Bool, cond, ◌&&◌, ℕ, eqb, leb}
use Rattle.verify.specs.declared.Event.{Event}
use Rattle.verify.specs.declared.Event.TheVariants.{Enable, Disable, LinkFailed, ResponseHeard, VerifyHeard, ResponseSent, Millisecond}

-- whether a number is an event's, and the event that it then is
unfoldable pub is_event : ℕ → Bool
is_event n = leb 3 n && leb n 9

abbrev pub event_of : ℕ → ℕ → Event
event_of n wait =
    cond (eqb n 3) VerifyHeard
    (cond (eqb n 4) ResponseHeard
    (cond (eqb n 5) ResponseSent
    (cond (eqb n 6) Millisecond
    (cond (eqb n 7) (Enable wait)
    (cond (eqb n 8) Disable LinkFailed)))))
