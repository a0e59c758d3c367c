-- The leading octets 55 of any octets (document 02, (vi)). Assumes nothing.
use Rattle.std.specs.Prelude.{◌≡◌, cond, List, [], ◌∷◌, ℕ, ◌+◌, ◌≤◌, eqb, length, drop}

-- the number of leading octets 55
unfoldable pub leading : List ℕ → ℕ
leading [] = 0
leading (x ∷ m) = cond (eqb x 0x55) (1 + leading m) 0

-- n of them, eight at most: the others are those of the octets behind (what a step of the count keeps; 0 always is such a number)
pub record Front (m : List ℕ) (n : ℕ) : Type 0 where
  pub few : n ≤ 8
  pub within : n ≤ length m
  pub counted : leading m ≡ n + leading (drop n m)
