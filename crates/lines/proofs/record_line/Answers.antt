-- `lines::record_line` meets its contract.
use native.Mathlib.Omega.{arith}
use Rattle.lines.proofs.Laws.{pair_length}
use Rattle.text.proofs.Laws.{puts_puts, digits_length}
use Rattle.lines.proofs.record_line.Goals as goal

pub returns : goal.returns
returns c =
    let a = c.args in
    let first = c.number.ensures in
    let second = c.pair.ensures in
    puts_puts first second (omega (arith, digits_length 20 a.number, pair_length a.answer a.detail, first.put.place, second.put.place))
