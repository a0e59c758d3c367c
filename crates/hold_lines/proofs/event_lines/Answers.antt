-- `hold_lines::event_lines` meets its contract: in each turn the lines of the events so far stand on the page.
use mathlib.Core.Path.{◌≡◌, refl, sym}
use Prim.Native.Nat.{◌≤◌, ◌<◌}
use native.Mathlib.Omega.{arith}
use native.Mathlib.Numerals.{add-one}
use lib.ListN.{length, take}
use lib.Seq.{take_all}
use Rattle.octets.proofs.Laid.{laid_none}
use Rattle.text.proofs.Laws.{puts_puts}
use Rattle.hold_lines.specs.HoldLines.{event_lines}
use Rattle.hold_lines.proofs.Laws.{event_end, so_far_end, events_next}
use Rattle.hold_lines.proofs.event_lines.Goals as goal

pub loop-event-init : goal.loop-event-init
unfolding event_lines
loop-event-init c = record { memory = refl; long = refl; put = record { place = omega arith; octets = sym (laid_none _ _) } }

pub event_line-requires : goal.event_line-requires
event_line-requires c =
    let l = c.loop-event in
    let i : l.event-index ≤ length c.args.events.now = omega arith in
    omega (arith, so_far_end l.event-index _ i l.invariant.put, l.invariant.long)

pub loop-event-preserved : goal.loop-event-preserved
loop-event-preserved c =
    let l = c.loop-event in
    let es = c.args.events.now in
    let line = c.event_line.ensures in
    let less : l.event-index < length es = omega arith in
    let i : l.event-index ≤ length es = omega arith in
    let both = puts_puts l.invariant line (omega (arith, so_far_end l.event-index es i l.invariant.put, event_end _ _ line.put)) in
    rw (add-one l.event-index) (rw (events_next l.event-index es less) both)

pub returns : goal.returns
returns c =
    let l = c.loop-event in
    let es = c.args.events.now in
    let all : take l.event-index es ≡ es = take_all l.event-index es (omega arith) in
    rw all at l.invariant
