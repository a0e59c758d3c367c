-- `text::Page::next_number` meets its contract.
use native.Mathlib.Omega.{arith}
use Rattle.text.proofs.Laws.{puts_puts, digits_length}
use Rattle.text.proofs.Page.next_number.Goals as goal

pub returns : goal.returns
returns c =
    let first = c.octet.ensures in
    let second = c.number.ensures in
    puts_puts first second (omega (arith, first.put.place, second.put.place, digits_length 20 c.args.n))
