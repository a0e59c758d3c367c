-- `eyes::put_shown` meets its contract. The invariant: what is left, laid over the slice as it is now, makes the slice asked for.
use mathlib.Core.Path.{◌≡◌}
use Prim.Native.Nat.{◌+◌, ◌-◌, ◌≤◌}
use lib.ListN.{length}
use Rattle.octets.specs.Laid.{laid}
use Rattle.pcap_headers.specs.Headers.{capture_records}
use Rattle.eyes.specs.Eyes.{shown_in}
use Rattle.eyes.proofs.Turns.{remaining}
use Rattle.eyes.proofs.put_shown.Given as goal

abbrev pub invariant-loop-span : goal.invariant-loop-span
invariant-loop-span l =
    (l.at + length (remaining l.trace l.«record» l.from) ≤ length l.out) × (length l.out ≡ length l.initial.out) × (length l.buffer ≡ 1518)
    × (laid l.out l.at (remaining l.trace l.«record» l.from) ≡ laid l.initial.out 24 (capture_records (shown_in l.trace)))

abbrev pub decreases-loop-span : goal.decreases-loop-span
decreases-loop-span l = length l.trace - l.from
