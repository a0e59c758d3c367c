-- `pcap_contents::put_all` meets its contract. The invariant: what is left, laid over the slice as it is now, makes the slice asked for.
use mathlib.Core.Path.{◌≡◌}
use Prim.Native.Nat.{◌+◌, ◌-◌, ◌≤◌}
use lib.ListN.{length}
use Rattle.octets.specs.Laid.{laid}
use Rattle.trace_layout.specs.Layout.{rest_from}
use Rattle.pcap_contents.specs.Written.{written_of}
use Rattle.pcap_contents.proofs.put_all.Given as goal

abbrev pub invariant-loop-span : goal.invariant-loop-span
invariant-loop-span g l =
    (l.end + length (written_of g.W.Writer.one g.W.Writer.next l.writer (rest_from (g.R.Records.read_at l.file) (g.R.Records.octets l.file) l.from).contents) ≤ length l.out)
    × (length l.out ≡ length l.initial.out)
    × (laid l.out l.end (written_of g.W.Writer.one g.W.Writer.next l.writer (rest_from (g.R.Records.read_at l.file) (g.R.Records.octets l.file) l.from).contents)
    ≡ laid l.initial.out l.initial.end
    (written_of g.W.Writer.one g.W.Writer.next l.initial.writer (rest_from (g.R.Records.read_at l.file) (g.R.Records.octets l.file) l.initial.from).contents))

abbrev pub decreases-loop-span : goal.decreases-loop-span
decreases-loop-span g l = length (g.R.Records.octets l.file) - l.from
