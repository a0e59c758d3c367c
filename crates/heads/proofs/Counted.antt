-- The head by a count of the leading octets 55 that stops at eight.
-- Assumes nothing.
use mathlib.Core.Path.{◌≡◌, ap}
use mathlib.Core.List.{List}
use Prim.Native.Nat.{ℕ, ◌≤◌, ◌<◌, min}
use native.Mathlib.Omega.{arith}
use Rattle.rules.proofs.Tests.{tests}
use Rattle.preambles.specs.Preamble.{leading}
use Rattle.heads.specs.Head.{refused, behind, head_of}

module _ (m : List ℕ) {n : ℕ} (counted : n ≡ min 8 (leading m)) where
  pub too_many : n ≡ 8 → head_of m ≡ refused 14 0
  unfolding head_of
  too_many e = let t0 : 7 < leading m = omega arith in simp tests

  pub by_count : (n ≡ 8 → ⊥) → (n ≤ 7) × (head_of m ≡ behind n m)
  unfolding head_of
  by_count z = let few : n ≤ 7 = omega arith in (few, ap (λ (k : ℕ). behind k m) (let e : leading m ≡ n = omega arith in e))
