-- `hold_lines::event_lines` meets its contract: in each turn the lines of the events so far stand on the page.
use lib.ListN.{take}
use Rattle.text.specs.Pages.{Puts}
use Rattle.hold_lines.specs.HoldLines.{event_lines}
use Rattle.hold_lines.proofs.event_lines.Given as goal

abbrev pub invariant-loop-event : goal.invariant-loop-event
invariant-loop-event l = Puts (event_lines (take l.event-index l.events)) l.initial.page l.page
