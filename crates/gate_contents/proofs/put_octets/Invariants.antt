-- `gate_contents::put_octets` meets its contract. The invariant: what is left, laid over the slice as it is now, makes the slice asked for.
use mathlib.Core.Path.{◌≡◌}
use Prim.Native.Nat.{◌*◌}
use lib.ListN.{length, drop}
use Rattle.octets.specs.Laid.{laid}
use Rattle.gate_entries.specs.Entries.{size}
use Rattle.gate_lists.specs.Lists.{octets_of_all}
use Rattle.gate_contents.proofs.put_octets.Given as goal

abbrev pub invariant-loop-i : goal.invariant-loop-i
invariant-loop-i l =
    (length l.list ≡ length l.initial.list)
    × (laid l.list (l.i * size) (octets_of_all (drop l.i l.entries)) ≡ laid l.initial.list 0 (octets_of_all l.entries))
