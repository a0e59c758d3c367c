-- `gate_contents::put_entries` meets its contract. The invariant: what is left, laid over the slice as it is now, makes the slice asked for.
use mathlib.Core.Path.{sym, ap, ◌∙◌}
use Prim.Native.Nat.{◌+◌, ◌-◌}
use native.Mathlib.Omega.{arith}
use lib.ListN.{set, length-set}
use Rattle.octets.specs.Laid.{laid}
use Rattle.octets.proofs.Laid.{laid_front}
use Rattle.gate_entries.specs.Entries.{Entry}
use Rattle.gate_lists.specs.Lists.{entries_from}
use Rattle.gate_lists.proofs.Good.{octets_good}
use Rattle.gate_contents.proofs.Turns.{entry_put, entries_put}
use Rattle.gate_contents.proofs.put_entries.Goals as goal

pub entry_at-requires : goal.entry_at-requires
entry_at-requires c = let l = c.args.list in omega (arith, (octets_good l.octets.now l.entries l.judged).exact)

pub loop-i-preserved : goal.loop-i-preserved
loop-i-preserved c =
    let l = c.loop-i in
    let s = c.args.list.octets.now in
    let n = c.args.list.entries in (
      simp length-set l.invariant.0,
      ap (λ (e : Entry). laid (set l.entries l.i e) (l.i + 1) (entries_from (n - (l.i + 1)) s (l.i + 1))) c.entry_at.ensures
          ∙ entry_put n s l.entries l.i (omega arith) (omega (arith, l.invariant.0))
          ∙ l.invariant.1,
    )

pub returns : goal.returns
returns c =
    let l = c.loop-i in
    let s = c.args.list.octets.now in
    let n = c.args.list.entries in
    sym (entries_put n s l.entries l.i c.loop-i-test.false) ∙ l.invariant.1 ∙ laid_front c.args.entries.now (entries_from n s 0)
