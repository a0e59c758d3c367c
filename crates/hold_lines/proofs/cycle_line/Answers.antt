-- `hold_lines::cycle_line` meets its contract.
use native.Mathlib.Omega.{arith}
use Rattle.text.proofs.Laws.{puts_puts}
use Rattle.hold_lines.proofs.Laws.{number_end}
use Rattle.hold_lines.proofs.cycle_line.Goals as goal

pub returns : goal.returns
returns c =
    let first = c.words.ensures in
    let second = c.number.ensures in
    let third = c.octet.ensures in
    puts_puts first
    (puts_puts second third (omega (arith, first.put.place, first.long, number_end _ second.put, third.put.place)))
    (omega (arith, first.put.place, number_end _ second.put, third.put.place))
