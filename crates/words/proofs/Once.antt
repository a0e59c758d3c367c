-- No second answer meets a promise of this crate.
-- Assumes nothing.
use mathlib.Core.Path.{◌≡◌, sym, ◌∙◌}
use mathlib.Core.Bool.{Bool}
use Prim.Native.Nat.{ℕ, ◌≤◌, ◌<◌, ◌^◌}
use lib.Dec.{eqb}
use Rattle.std.specs.Prelude.{Option, SomeIff}
use Rattle.words.specs.Words.{flag}
use Rattle.words.proofs.Laws.{some_once}

-- flag_of
pub flag_of_once : (n : ℕ) (x y : Option Bool) → SomeIff x (n ≤ 1) (eqb n 1) → SomeIff y (n ≤ 1) (eqb n 1) → x ≡ y
flag_of_once n = some_once _ _

-- a flag as a word, and a word as a length
pub flag_once : (b : Bool) {x y : ℕ} → x ≡ flag b → y ≡ flag b → x ≡ y
flag_once b p q = p ∙ sym q

pub wide_once : (n : ℕ) {x y : ℕ} → (x ≡ n) × (x < 2 ^ 32) → (y ≡ n) × (y < 2 ^ 32) → x ≡ y
wide_once n p q = p.0 ∙ sym q.0
