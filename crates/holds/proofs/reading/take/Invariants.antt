-- The octets taken lie in the memory, which stays as long as it was; each turn that is followed by another takes one at least.
use Rattle.std.proofs.Common.{length, ◌≡◌, ◌-◌, ◌≤◌}
use Rattle.holds.proofs.reading.take.Given as goal

abbrev pub invariant-loop-count : goal.invariant-loop-count
invariant-loop-count g l = (l.count ≤ length l.octets) × (length l.octets ≡ length l.initial.octets)

abbrev pub decreases-loop-count : goal.decreases-loop-count
decreases-loop-count g l = length l.initial.octets - l.count
