-- `lines::end_line` meets its contract.
use native.Mathlib.Omega.{arith}
use Rattle.lines.proofs.Laws.{pair_length}
use Rattle.text.proofs.Laws.{puts_puts, digits_length}
use Rattle.lines.proofs.end_line.Goals as goal

pub returns : goal.returns
returns c =
    let a = c.args in
    let first = c.words.ensures in
    let second = c.next_number.ensures in
    let third = c.next_number-2.ensures in
    let fourth = c.pair.ensures in
    puts_puts first
    (puts_puts second
    (puts_puts third fourth (omega (arith, digits_length 20 a.errors, digits_length 20 a.delimiters, pair_length a.assembled a.fragments, first.put.place, first.long, second.put.place, second.long, third.put.place, fourth.put.place)))
    (omega (arith, digits_length 20 a.errors, digits_length 20 a.delimiters, pair_length a.assembled a.fragments, first.put.place, first.long, second.put.place, third.put.place, fourth.put.place)))
    (omega (arith, digits_length 20 a.errors, digits_length 20 a.delimiters, pair_length a.assembled a.fragments, first.put.place, second.put.place, third.put.place, fourth.put.place))
