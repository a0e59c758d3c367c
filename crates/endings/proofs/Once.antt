-- No second answer meets the promise of this crate.
-- Assumes nothing.
use mathlib.Core.Path.{◌≡◌, sym, ◌∙◌}
use mathlib.Core.List.{List}
use Prim.Native.Nat.{ℕ}
use Rattle.endings.specs.Judge.{ending_of}
use Rattle.endings.specs.declared.Ending.{Ending}

-- judge
pub judge_once : (r : ℕ) (octets : List ℕ) {x y : Ending} → x ≡ ending_of r octets → y ≡ ending_of r octets → x ≡ y
judge_once r octets p q = p ∙ sym q
