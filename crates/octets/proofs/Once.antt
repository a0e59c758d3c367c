-- No second answer meets a promise of this crate.
-- Assumes nothing.
use mathlib.Core.Path.{◌≡◌, sym, ◌∙◌}
use mathlib.Core.List.{List}
use Prim.Native.Nat.{ℕ}
use Rattle.octets.specs.Laid.{laid}

-- copy_into: each octet of the memory lent
pub copy_into_once : (out : List ℕ) (at : ℕ) (src : List ℕ) {x y : List ℕ} → x ≡ laid out at src → y ≡ laid out at src → x ≡ y
copy_into_once out at src p q = p ∙ sym q
