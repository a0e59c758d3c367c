-- No second answer meets a promise of this crate.
-- Assumes nothing.
use mathlib.Core.Path.{◌≡◌, sym, ◌∙◌}
use mathlib.Core.List.{List}
use Prim.Native.Nat.{ℕ}
use Rattle.mframe.specs.Octets.{Laid}

-- lay: no second number, and no other octets
pub lay_once : (mframe out : List ℕ) {m n : ℕ} {x y : List ℕ} → Laid mframe out m x → Laid mframe out n y → (m ≡ n) × (x ≡ y)
lay_once mframe out p q = (p.count ∙ sym q.count, p.octets ∙ sym q.octets)
