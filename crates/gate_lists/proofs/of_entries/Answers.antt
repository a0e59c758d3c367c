-- `gate_lists::of_entries` meets its contract. The invariant: the walk from here on says what it says of all entries.
use mathlib.Core.Path.{sym, ◌∙◌}
use mathlib.Core.Bool.{true, false}
use native.Mathlib.Omega.{arith}
use Rattle.gate_lists.specs.Lists.{entries_end, entries_fault}
use Rattle.gate_lists.proofs.Laws.{entries_going, entries_over, entries_fault_lem, at_place, at_end, at_fault, one_more}
use Rattle.gate_lists.proofs.of_entries.Goals as goal

pub returns-then-entries-fitted : goal.returns-then-entries-fitted
returns-then-entries-fitted c =
    let l = c.loop-fitted in
    let es = c.args.entries.now in
    sym (at_end (entries_end es) (entries_fault es) l.fitted (entries_over es l.fitted (omega arith)))
    ∙ sym (at_place (entries_end es) (entries_fault es) l.fitted (omega arith)) ∙ l.invariant

pub returns-then-not-fits : goal.returns-then-not-fits
returns-then-not-fits c =
    let l = c.loop-fitted in
    let es = c.args.entries.now in
    let f = entries_fault_lem es l.fitted false (sym c.fits.ensures ∙ c.if-not-fits.true) in
    sym (at_fault (entries_end es) (entries_fault es) l.fitted 61 (entries_going es l.fitted (omega arith)) f (λ z. omega arith))
    ∙ sym (at_place (entries_end es) (entries_fault es) l.fitted (omega arith)) ∙ l.invariant

pub loop-fitted-preserved : goal.loop-fitted-preserved
loop-fitted-preserved c =
    let l = c.loop-fitted in
    let es = c.args.entries.now in
    let f = entries_fault_lem es l.fitted true (sym c.fits.ensures ∙ c.if-not-fits.false) in
    one_more (entries_end es) (entries_fault es) l.fitted (omega arith) (entries_going es l.fitted (omega arith)) f ∙ l.invariant
