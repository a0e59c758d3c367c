-- `delimiters::distance` meets its contract. The invariant: the least so far and that of the codes left make the distance; what it would stop
-- at here is the distance by itself (`unbeaten`).
use mathlib.Core.Path.{◌≡◌}
use mathlib.Core.List.{map}
use Prim.Native.Nat.{ℕ, ◌≤◌, ◌<◌, min}
use lib.ListN.{get_or, drop}
use Rattle.delimiters.specs.Delimiters.{eleven, differing, least_of, distance_of}
use Rattle.delimiters.proofs.distance.Given as goal

-- the least number of bits by which x differs from the codes from place i on
abbrev pub left : ℕ → ℕ → ℕ
left x i = least_of (map (differing x) (drop i eleven))

abbrev pub invariant-loop-i : goal.invariant-loop-i
invariant-loop-i l = record {
  few : l.best ≤ 8;
  least : min l.best (left l.octet l.i) ≡ distance_of l.octet;
  stop : l.i < 11 → differing l.octet (get_or eleven l.i 0) ≤ 2 → differing l.octet (get_or eleven l.i 0) ≡ distance_of l.octet;
}
