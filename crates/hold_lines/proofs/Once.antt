-- No second place and no other octets meet the promise of this crate's call.
-- Assumes nothing.
use mathlib.Core.Path.{◌≡◌}
use mathlib.Core.List.{List}
use Prim.Native.Nat.{ℕ}
use Rattle.text.specs.Text.{Put}
use Rattle.text.proofs.Once.{put_once}
use Rattle.hold_lines.specs.HoldLines.{all_lines}

-- all_lines
pub all_lines_once : (events : List (List ℕ)) (cycle : ℕ) (out : List ℕ) {r s : ℕ} {x y : List ℕ} → let p = all_lines events cycle in
    Put p 0 out r x → Put p 0 out s y → (r ≡ s) × (x ≡ y)
all_lines_once events cycle out = put_once (all_lines events cycle) 0 out
