-- Data laid behind the octets kept: what the buffer then begins with, and its length. Assumes nothing.
use mathlib.Core.Path.{◌≡◌, ap, ◌∙◌}
use mathlib.Core.List.{List, ◌++◌}
use Prim.Native.Nat.{ℕ, ◌+◌, ◌-◌, ◌≤◌}
use native.Mathlib.Omega.{arith}
use lib.ListN.{length, take, drop, length-append}
use lib.Seq.{take_at, length-take-le}
use Rattle.octets.specs.Laid.{laid}
use Rattle.octets.proofs.Laid.{length_laid}

-- data d behind k octets of the buffer B, which then are n
module _ (B d : List ℕ) (k n : ℕ) (e : n ≡ k + length d) (fits : n ≤ length B) where
  pub keeps : take n (laid B (n - length d) d) ≡ take k B ++ d
  unfolding laid
  keeps =
      let place : n - length d ≡ k = omega arith in
      let long : length (take k B) ≡ k = length-take-le k B (omega arith) in
      ap (λ (i : ℕ). take n (take i B ++ d ++ drop (i + length d) B)) place
      ∙ take_at (take k B ++ d) (drop (k + length d) B) n (let l : length (take k B ++ d) ≡ n = omega (arith, length-append (take k B) d) in l)

  pub as_long : length (laid B (n - length d) d) ≡ length B
  as_long = length_laid B (n - length d) d (omega arith)
