-- How long the two numbers at the end of a line are.
-- Assumes nothing.
use mathlib.Core.List.{[], ◌∷◌, ◌++◌}
use Prim.Native.Nat.{ℕ, ◌≤◌}
use native.Mathlib.Omega.{arith}
use lib.ListN.{length, length-append}
use Rattle.text.specs.Text.{line_end}
use Rattle.text.proofs.Laws.{digits_length}
use Rattle.lines.specs.Lines.{next, pair_line}

pub pair_length : (a b : ℕ) → length (pair_line a b) ≤ 43
pair_length a b =
    omega (arith, digits_length 20 a, digits_length 20 b, length-append (next a) (next b ++ (line_end ∷ [])), length-append (next b) (line_end ∷ []))
