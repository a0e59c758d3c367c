-- `gate_lists::of_octets` meets its contract. The invariant: the walk from here on says what it says of the whole list.
use mathlib.Core.Path.{sym, ◌∙◌}
use native.Mathlib.Omega.{arith}
use Rattle.gate_entries.proofs.Laws.{some_number}
use Rattle.gate_lists.specs.Lists.{octets_end, octets_fault}
use Rattle.gate_lists.proofs.Laws.{octets_going, octets_over, at_place, at_end, at_fault, one_more}
use Rattle.gate_lists.proofs.of_octets.Goals as goal

pub returns-then-list-at : goal.returns-then-list-at
returns-then-list-at c =
    let l = c.loop-passed in
    let s = c.args.list.now in
    sym (at_end (octets_end s) (octets_fault s) l.passed (octets_over s l.passed (omega arith)))
    ∙ sym (at_place (octets_end s) (octets_fault s) l.passed (omega arith)) ∙ l.invariant

pub returns-in-Err : goal.returns-in-Err
returns-in-Err c =
    let l = c.loop-passed in
    let s = c.args.list.now in
    sym (at_fault (octets_end s) (octets_fault s) l.passed _ (octets_going s l.passed (omega arith)) (sym c.in-Err.ensures) (some_number c.in-Err.why))
    ∙ sym (at_place (octets_end s) (octets_fault s) l.passed (omega arith)) ∙ l.invariant

pub loop-passed-preserved : goal.loop-passed-preserved
loop-passed-preserved c =
    let l = c.loop-passed in
    let s = c.args.list.now in
    one_more (octets_end s) (octets_fault s) l.passed (omega arith) (octets_going s l.passed (omega arith)) (sym c.in_default.ensures) ∙ l.invariant
