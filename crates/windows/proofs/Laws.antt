-- A part of a list without its first octets.
-- Assumes nothing.
use mathlib.Core.Path.{◌≡◌, sym, ap, ◌∙◌}
use mathlib.Core.List.{List}
use Prim.Native.Nat.{ℕ, ◌+◌, ◌-◌, ◌≤◌}
use native.Mathlib.Omega.{arith}
use lib.ListN.{take, drop}
use Rattle.std.proofs.lemmas.List.{drop-take, drop-drop}

pub part_behind : (xs : List ℕ) (a b n : ℕ) → a + n ≤ b → take (b - (a + n)) (drop (a + n) xs) ≡ drop n (take (b - a) (drop a xs))
part_behind xs a b n h =
    let m : ℕ = b - (a + n) in
    let all : b - a ≡ n + m = omega (arith, h) in
    sym (ap (λ (k : ℕ). drop n (take k (drop a xs))) all ∙ drop-take n m (drop a xs) ∙ ap (take m) (drop-drop n a xs))
