-- `delimiters::distance` meets its contract. The invariant: the least so far and that of the codes left make the distance; what it would stop
-- at here is the distance by itself (`unbeaten`).
use mathlib.Core.Path.{◌≡◌, ap}
use mathlib.Core.List.{List, map}
use Prim.Native.Nat.{ℕ, ◌+◌, ◌≤◌, ◌<◌, min}
use native.Mathlib.Numerals.{add-one}
use native.Mathlib.Omega.{arith}
use lib.ListN.{get_or, drop_of_length-le}
use lib.Seq.{drop-cons}
use Rattle.delimiters.specs.Delimiters.{eleven, differing, least_of, distance_of}
use Rattle.delimiters.proofs.Bits.{least_eight}
use Rattle.delimiters.proofs.Unbeaten.{unbeaten}
use Rattle.delimiters.proofs.distance.Invariants.{left}
use Rattle.delimiters.proofs.distance.Goals as goal

turn : (x i : ℕ) → i < 11 → left x i ≡ min (differing x (get_or eleven i 0)) (left x (i + 1))
unfolding least_of
turn x i h = rw (add-one, drop-cons eleven i 0 h)

at_end : (x i : ℕ) → 11 ≤ i → left x i ≡ 8
unfolding least_of
at_end x i h = ap (λ (ds : List ℕ). least_of (map (differing x) ds)) (drop_of_length-le eleven h)

pub loop-i-init : goal.loop-i-init
unfolding distance_of
loop-i-init c = record {
  few = omega arith;
  least = omega (arith, least_eight (map (differing c.args.octet) eleven));
  stop = unbeaten c.args.octet 0 c.ranges.octet.fits;
}

pub loop-i-preserved : goal.loop-i-preserved
loop-i-preserved c =
    let l = c.loop-i in
    let t = turn c.args.octet l.i (omega arith) in
    record { few = omega arith; least = omega arith; stop = unbeaten c.args.octet (l.i + 1) c.ranges.octet.fits }

pub returns : goal.returns
returns c =
    let l = c.loop-i in
    let e = at_end c.args.octet l.i (omega arith) in
    omega arith
