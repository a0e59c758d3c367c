-- No second answer meets a promise of this crate.
-- Assumes nothing.
use mathlib.Core.Path.{◌≡◌, sym, ◌∙◌}
use mathlib.Core.List.{List}
use Prim.Native.Nat.{ℕ, min}
use Rattle.preambles.specs.Preamble.{leading}

-- lead
pub lead_once : (m : List ℕ) {x y : ℕ} → x ≡ min 8 (leading m) → y ≡ min 8 (leading m) → x ≡ y
lead_once m p q = p ∙ sym q
