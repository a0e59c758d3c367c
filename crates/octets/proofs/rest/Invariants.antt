-- `octets::rest` meets its contract. The invariant: what is left to copy, laid over the slice as it is now, makes the slice asked for.
use mathlib.Core.Path.{◌≡◌}
use lib.ListN.{drop}
use Rattle.octets.specs.Laid.{laid}
use Rattle.octets.proofs.rest.Given as goal

abbrev pub invariant-loop-i : goal.invariant-loop-i
invariant-loop-i l = laid l.out l.i (drop l.i l.src) ≡ laid l.initial.out l.from (drop l.from l.src)
