-- A flag and its word say the same, both ways; and a promise of a value, if any, is met by one answer.
-- Assumes nothing.
use mathlib.Core.Path.{◌≡◌, refl, sym, ap, ◌∙◌}
use mathlib.Core.Bool.{Bool, true, false}
use Prim.Native.Nat.{ℕ, zero, suc, ◌≤◌}
use native.Mathlib.Omega.{arith}
use lib.Dec.{eqb}
use Rattle.std.specs.Prelude.{Option, Some, None, SomeIff}
use Rattle.words.specs.Words.{flag}

pub flag_read : (b : Bool) → eqb (flag b) 1 ≡ b
flag_read true = refl
flag_read false = refl

pub flag_written : (n : ℕ) → n ≤ 1 → flag (eqb n 1) ≡ n
flag_written zero h = refl
flag_written (suc zero) h = refl
flag_written (suc (suc n)) h = absurd (let y : ⊥ = omega (arith, h) in y)

pub some_once : {A : Type 0} (P : Type 0) (v : A) (x y : Option A) → SomeIff x P v → SomeIff y P v → x ≡ y
some_once P v (Some a) (Some b) h k = ap Some (h.1 ∙ sym k.1)
some_once P v (Some a) None h k = absurd (k h.0)
some_once P v None (Some b) h k = absurd (h k.0)
some_once P v None None h k = refl
