-- `lines::stop_line` meets its contract.
use native.Mathlib.Omega.{arith}
use Rattle.lines.proofs.Laws.{pair_length}
use Rattle.text.proofs.Laws.{puts_puts}
use Rattle.lines.proofs.stop_line.Goals as goal

pub returns : goal.returns
returns c =
    let a = c.args in
    let first = c.words.ensures in
    let second = c.pair.ensures in
    puts_puts first second (omega (arith, pair_length a.number a.refusal, first.put.place, second.put.place))
