-- `hold_lines::event_line` meets its contract.
use native.Mathlib.Omega.{arith}
use Rattle.text.proofs.Laws.{puts_puts}
use Rattle.hold_lines.proofs.Laws.{number_end, word_end}
use Rattle.hold_lines.proofs.event_line.Goals as goal

pub returns : goal.returns
returns c =
    let first = c.number.ensures in
    let second = c.word_line.ensures in
    puts_puts first second (omega (arith, number_end _ first.put, word_end _ second.put))
