-- `gate_events::put_events` meets its contract. The invariant: what is left, laid over the slice as it is now, makes the slice asked for.
use mathlib.Core.Path.{◌≡◌}
use Prim.Native.Nat.{◌+◌, ◌-◌, ◌*◌, ◌≤◌}
use lib.ListN.{length}
use Rattle.octets.specs.Laid.{laid}
use Rattle.gate_lists.specs.Lists.{entries_from}
use Rattle.gate_events.specs.Events.{events_from}
use Rattle.gate_events.proofs.put_events.Given as goal

abbrev pub invariant-loop-i : goal.invariant-loop-i
invariant-loop-i l =
    let n = l.list.entries in
    let s = l.list.octets.now in
    (l.next ≤ l.i) × (l.time ≤ l.i * 4294967295) × (length l.events ≡ length l.initial.events)
    × (l.next + length (events_from l.time (entries_from (n - l.i) s l.i)) ≤ length l.events)
    × (laid l.events l.next (events_from l.time (entries_from (n - l.i) s l.i)) ≡ laid l.initial.events 0 (events_from 0 (entries_from n s 0)))
