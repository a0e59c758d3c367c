-- Laws of the leading octets 55: how a count goes on, and how many there are of a front part.
-- Assumes nothing.
use mathlib.Core.Path.{◌≡◌}
use mathlib.Core.Bool.{Bool, true, false, cond}
use mathlib.Core.List.{List, [], ◌∷◌}
use Prim.Native.Nat.{ℕ, zero, suc, ◌+◌, ◌≤◌, ◌<◌, min}
use native.Mathlib.Omega.{arith}
use native.Mathlib.Numerals.{add-one}
use native.Mathlib.Nat.{le_antisymm}
use borrow.Author.Tests.{ne_eqb, eq-eqb}
use lib.Dec.{eqb}
use lib.ListN.{length, take, drop, get_or}
use lib.Seq.{drop-cons, drop-length}
use Rattle.preambles.specs.Preamble.{leading}

-- at a place: one more, or none, or the end
pub one_more : (m : List ℕ) (i : ℕ) → i < length m → get_or m i 0 ≡ 0x55 → leading (drop i m) ≡ 1 + leading (drop (i + 1) m)
unfolding leading
one_more m i h e = rw (drop-cons m i 0 h, eq-eqb _ _ e, add-one) (omega arith)

pub no_more : (m : List ℕ) (i : ℕ) → i < length m → (get_or m i 0 ≡ 0x55 → ⊥) → leading (drop i m) ≡ 0
unfolding leading
no_more m i h e = rw (drop-cons m i 0 h, ne_eqb _ _ e)

pub at_end : (m : List ℕ) (i : ℕ) → i ≤ length m → length m ≤ i → leading (drop i m) ≡ 0
unfolding leading
at_end m i h k = rw (le_antisymm h k, drop-length)

-- the first k octets have as many as all of them, up to k
pub leading_take : (k : ℕ) (m : List ℕ) → leading (take k m) ≡ min k (leading m)
unfolding leading
leading_take zero m = omega arith
leading_take (suc k) [] = omega arith
leading_take (suc k) (x ∷ m) = go (eqb x 0x55) (leading_take k m)
  where
    go : (b : Bool) → leading (take k m) ≡ min k (leading m) → cond b (1 + leading (take k m)) 0 ≡ min (suc k) (cond b (1 + leading m) 0)
    go true e = omega (arith, e)
    go false e = omega arith
