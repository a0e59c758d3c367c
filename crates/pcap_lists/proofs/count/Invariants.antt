-- `pcap_lists::count` meets its contract. The invariant: what is said of the records from here on, behind those counted, is said of all.
use mathlib.Core.Path.{◌≡◌}
use Prim.Native.Nat.{◌-◌, ◌*◌, ◌^◌, ◌≤◌, ◌<◌}
use lib.ListN.{length}
use Rattle.trace_layout.specs.Layout.{rest_from}
use Rattle.pcap_lists.specs.Lists.{judged_from, judged}
use Rattle.pcap_lists.proofs.count.Given as goal

abbrev pub invariant-loop-span : goal.invariant-loop-span
invariant-loop-span g l =
    (l.records * 4 ≤ l.at) × (l.at < 2 ^ 64)
    × (judged_from l.records (rest_from (g.R.Records.read_at l.file) (g.R.Records.octets l.file) l.at)
    ≡ judged (rest_from (g.R.Records.read_at l.file) (g.R.Records.octets l.file) (g.R.Records.front l.file)))

abbrev pub decreases-loop-span : goal.decreases-loop-span
decreases-loop-span g l = length (g.R.Records.octets l.file) - l.at
