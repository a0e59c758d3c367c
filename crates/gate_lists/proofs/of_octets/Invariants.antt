-- `gate_lists::of_octets` meets its contract. The invariant: the walk from here on says what it says of the whole list.
use mathlib.Core.Path.{◌≡◌}
use Rattle.gate_lists.specs.Lists.{octets_end, octets_fault, of_octets}
use Rattle.gate_lists.proofs.Laws.{behind}
use Rattle.gate_lists.proofs.of_octets.Given as goal

abbrev pub invariant-loop-passed : goal.invariant-loop-passed
invariant-loop-passed l = behind (octets_end l.list) (octets_fault l.list) l.passed ≡ of_octets l.list
