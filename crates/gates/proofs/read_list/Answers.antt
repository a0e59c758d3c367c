-- `gates::read_list` meets its contract.
use mathlib.Core.Path.{sym, ap, ◌∙◌}
use native.Mathlib.Omega.{arith}
use Rattle.octets.specs.Laid.{over}
use Rattle.gates.specs.Gates.{entries_of}
use Rattle.gates.proofs.Laws.{met_short, met_good, entries_of_lem, count_of}
use Rattle.gates.proofs.read_list.Goals as goal

pub returns-then-entries-n : goal.returns-then-entries-n
returns-then-entries-n c =
    let a = c.args in
    let g = sym c.in_ok-n.ensures in
    let l = count_of a.list.now _ g in
    met_short (entries_of a.list.now) a.entries.now _ _ _ g l (omega (arith, c.if-entries-n.true, l))

pub returns : goal.returns
returns c =
    let a = c.args in
    let g = sym c.in_ok-n.ensures in
    let l = count_of a.list.now _ g in
    met_good (entries_of a.list.now) a.entries.now _ _ _ g l (omega (arith, c.if-entries-n.false, l))
    (c.put_entries.ensures ∙ ap (λ x. over x a.entries.now) (sym (entries_of_lem a.list.now _ g)))
