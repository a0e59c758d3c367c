-- What a wait has.
-- Assumes nothing.
use mathlib.Core.Path.{◌≡◌}
use mathlib.Core.Bool.{true}
use Prim.Native.Nat.{ℕ, ◌≤◌}
use lib.Dec.{leb}
use borrow.Author.Tests.{leb-true}
use Rattle.rules.proofs.Tests.{both}
use Rattle.verify_record.specs.Ranges.{longest, is_wait}

pub wait_known : (n : ℕ) → is_wait n ≡ true → (1 ≤ n) × (n ≤ longest)
unfolding is_wait
wait_known n h =
    let b = both (leb 1 n) _ h in
    (leb-true _ _ b.0, leb-true _ _ b.1)
