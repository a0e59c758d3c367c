-- `lines::pair` meets its contract.
use native.Mathlib.Omega.{arith}
use Rattle.text.proofs.Laws.{puts_puts, digits_length}
use Rattle.lines.proofs.pair.Goals as goal

pub returns : goal.returns
returns c =
    let a = c.args in
    let first = c.next_number.ensures in
    let second = c.next_number-2.ensures in
    let third = c.octet.ensures in
    let both = puts_puts second third (omega (arith, digits_length 20 a.a, digits_length 20 a.b, first.put.place, first.long, second.put.place, third.put.place)) in
    puts_puts first both (omega (arith, digits_length 20 a.a, digits_length 20 a.b, first.put.place, second.put.place, third.put.place))
