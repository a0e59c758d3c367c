-- Link verification as document 01, "Verification", lays it down, with the wait of document 02, (v): the table of events, and what is refused.
-- Assumes nothing.
use Rattle.std.specs.Prelude.{Bool, true, false, cond}
use Rattle.verify_record.specs.Ranges.{in_range}
use Rattle.verify_record.specs.declared.Phase.TheVariants.{Off}
use Rattle.verify_record.specs.declared.Record.{Record}
use Rattle.verify_answers.specs.Answers.{Told, takes, refuses}
use Rattle.verify_trying.specs.Trying.{rests, enabled, heard, ticked}
use Rattle.verify.specs.declared.Event.{Event}
use Rattle.verify.specs.declared.Event.TheVariants.{Enable, Disable, LinkFailed, ResponseHeard, VerifyHeard, ResponseSent, Millisecond}

-- the record with a response owed or not
abbrev pub owing : Bool → Record → Record
owing b r = record { phase = r.phase; attempt = r.attempt; left = r.left; owed = b; wait = r.wait }

-- the table of events, a row a clause
abbrev pub effect : Event → Record → Told
effect (Enable n) r = enabled n r
effect Disable r = takes (rests Off r) false
effect LinkFailed r = takes (owing false (rests Off r)) false
effect ResponseHeard r = heard r
effect VerifyHeard r = takes (owing true r) false
effect ResponseSent r = takes (owing false r) false
effect Millisecond r = ticked r

-- "Any other values are refused with 40 and handed back"; 41 comes "after 40"
unfoldable pub step_of : Record → Event → Told
step_of r e = cond (in_range r) (effect e r) (refuses 40 r)
