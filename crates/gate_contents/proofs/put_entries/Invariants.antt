-- `gate_contents::put_entries` meets its contract. The invariant: what is left, laid over the slice as it is now, makes the slice asked for.
use mathlib.Core.Path.{◌≡◌}
use Prim.Native.Nat.{◌-◌}
use lib.ListN.{length}
use Rattle.octets.specs.Laid.{laid}
use Rattle.gate_lists.specs.Lists.{entries_from}
use Rattle.gate_contents.proofs.put_entries.Given as goal

abbrev pub invariant-loop-i : goal.invariant-loop-i
invariant-loop-i l =
    (length l.entries ≡ length l.initial.entries)
    × (laid l.entries l.i (entries_from (l.list.entries - l.i) l.list.octets.now l.i) ≡ laid l.initial.entries 0 (entries_from l.list.entries l.list.octets.now 0))
