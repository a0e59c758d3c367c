-- `gate_lists::of_entries` meets its contract. The invariant: the walk from here on says what it says of all entries.
use mathlib.Core.Path.{◌≡◌}
use Rattle.gate_lists.specs.Lists.{entries_end, entries_fault, of_entries}
use Rattle.gate_lists.proofs.Laws.{behind}
use Rattle.gate_lists.proofs.of_entries.Given as goal

abbrev pub invariant-loop-fitted : goal.invariant-loop-fitted
invariant-loop-fitted l = behind (entries_end l.entries) (entries_fault l.entries) l.fitted ≡ of_entries l.entries
