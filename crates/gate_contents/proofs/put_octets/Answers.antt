-- `gate_contents::put_octets` meets its contract. The invariant: what is left, laid over the slice as it is now, makes the slice asked for.
use mathlib.Core.Path.{sym, ap, ◌∙◌}
use mathlib.Core.List.{List, []}
use Prim.Native.Nat.{ℕ, ◌+◌, ◌*◌}
use native.Mathlib.Omega.{arith}
use lib.ListN.{get_or, length, drop}
use Rattle.octets.specs.Laid.{laid}
use Rattle.octets.proofs.Laid.{laid_front}
use Rattle.gate_entries.specs.Entries.{size}
use Rattle.gate_entries.proofs.Laws.{fitting_known}
use Rattle.gate_lists.specs.Lists.{octets_of_all}
use Rattle.gate_lists.proofs.Good.{entries_good}
use Rattle.gate_contents.proofs.Turns.{octets_put, all_put}
use Rattle.gate_contents.proofs.put_octets.Goals as goal

pub overflow_cast-i-end : goal.overflow_cast-i-end
overflow_cast-i-end c = omega (arith, (entries_good _ _ c.requires.0).bound)

pub octets_of-octets-requires : goal.octets_of-octets-requires
octets_of-octets-requires c =
    let es = c.args.entries.now in
    let i = c.loop-i.i in
    fitting_known (get_or es i []) ((entries_good es (length es) c.requires.0).each i c.loop-i-test.true)

pub loop-i-preserved : goal.loop-i-preserved
loop-i-preserved c =
    let l = c.loop-i in
    let es = c.args.entries.now in (
      omega arith,
      ap (λ (x : List ℕ). laid x ((l.i + 1) * size) (octets_of_all (drop (l.i + 1) es)))
          (c.put_at.ensures ∙ ap (laid l.list (l.i * size)) c.octets_of-octets.ensures)
          ∙ octets_put es l.list l.i c.loop-i-test.true (omega (arith, l.invariant.0, c.requires.1)) ∙ l.invariant.1,
    )

pub returns : goal.returns
returns c =
    let l = c.loop-i in
    let a = c.args in
    sym (all_put a.entries.now l.list l.i c.loop-i-test.false) ∙ l.invariant.1 ∙ laid_front a.list.now (octets_of_all a.entries.now)
