-- `hold_lines::all_lines` meets its contract.
use native.Mathlib.Omega.{arith}
use borrow.Author.Rules.{rules}
use Rattle.text.proofs.Laws.{puts_puts}
use Rattle.hold_lines.proofs.Laws.{events_end, cycle_end}
use Rattle.hold_lines.proofs.all_lines.Goals as goal

pub returns : goal.returns
returns c =
    let first = c.event_lines.ensures in
    let second = c.cycle_line.ensures in
    let both = puts_puts first second (omega (arith, events_end _ first.put, cycle_end _ second.put)) in
    record { place = both.put.place; octets = let m = both.memory in let o = both.put.octets in search rules }
