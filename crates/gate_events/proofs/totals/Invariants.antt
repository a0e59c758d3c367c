-- `gate_events::totals` meets its contract. The invariant: what was counted and what is left come to what the list comes to.
use mathlib.Core.Path.{◌≡◌}
use Prim.Native.Nat.{◌+◌, ◌-◌, ◌*◌, ◌≤◌}
use lib.ListN.{length}
use Rattle.gate_lists.specs.Lists.{entries_from}
use Rattle.gate_events.specs.Events.{sum_of, events_from}
use Rattle.gate_events.proofs.totals.Given as goal

abbrev pub invariant-loop-i : goal.invariant-loop-i
invariant-loop-i l =
    let n = l.list.entries in
    let s = l.list.octets.now in
    (l.events ≤ l.i) × (l.cycle ≤ l.i * 4294967295)
    × (l.events + length (events_from l.cycle (entries_from (n - l.i) s l.i)) ≡ length (events_from 0 (entries_from n s 0)))
    × (l.cycle + sum_of (entries_from (n - l.i) s l.i) ≡ sum_of (entries_from n s 0))
