-- No second answer meets the promise of this crate.
-- Assumes nothing.
use mathlib.Core.Path.{◌≡◌, sym, ◌∙◌}
use Prim.Native.Nat.{ℕ}
use Rattle.std.specs.Prelude.{Option}
use Rattle.cut.specs.Cut.{minimum, part_of}

-- next_part
pub next_part_once : (L s extra : ℕ) (ask : Option ℕ) {p q : Option ℕ} → p ≡ part_of L s (minimum extra) ask → q ≡ part_of L s (minimum extra) ask → p ≡ q
next_part_once L s extra ask a b = a ∙ sym b
