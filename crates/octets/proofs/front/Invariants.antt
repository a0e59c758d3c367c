-- `octets::front` meets its contract. The invariant: what is left to copy, laid over the slice as it is now, makes the slice asked for.
use mathlib.Core.Path.{◌≡◌}
use Prim.Native.Nat.{◌*◌}
use lib.ListN.{drop}
use Rattle.octets.specs.Laid.{laid}
use Rattle.octets.proofs.front.Given as goal

abbrev pub invariant-loop-k : goal.invariant-loop-k
invariant-loop-k l = laid l.out (l.k * 8) (drop (l.k * 8) l.src) ≡ laid l.initial.out 0 l.src
