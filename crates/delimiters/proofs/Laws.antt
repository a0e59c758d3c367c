-- Reading a code gives back what it says.
-- Assumes nothing.
use mathlib.Core.Path.{◌≡◌, refl}
use Prim.Native.Nat.{ℕ, zero, suc, ◌<◌}
use native.Mathlib.Omega.{arith}
use Rattle.std.specs.Prelude.{Some}
use Rattle.codes.specs.Codes.{frame, fragment, express_code, verify_code, respond_code, start_code, continuation_code, fragment_code}
use Rattle.delimiters.specs.Delimiters.{meaning, delimiter_of, fragment_of}
use Rattle.delimiters.specs.declared.Delimiter.TheVariants as D

-- a number under 4 is 0, 1, 2 or 3
under_four : (P : ℕ → Type 0) → P 0 → P 1 → P 2 → P 3 → (n : ℕ) → n < 4 → P n
under_four P a b c d zero h = a
under_four P a b c d (suc zero) h = b
under_four P a b c d (suc (suc zero)) h = c
under_four P a b c d (suc (suc (suc zero))) h = d
under_four P a b c d (suc (suc (suc (suc n)))) h = absurd (let z : ⊥ = omega arith in z)

pub start_read : (n : ℕ) → n < 4 → delimiter_of (start_code (frame n)) ≡ D.Start (frame n)
unfolding delimiter_of meaning
start_read = under_four (λ (n : ℕ). delimiter_of (start_code (frame n)) ≡ D.Start (frame n)) refl refl refl refl

pub continuation_read : (n : ℕ) → n < 4 → delimiter_of (continuation_code (frame n)) ≡ D.Continuation (frame n)
unfolding delimiter_of meaning
continuation_read = under_four (λ (n : ℕ). delimiter_of (continuation_code (frame n)) ≡ D.Continuation (frame n)) refl refl refl refl

pub fragment_read : (n : ℕ) → n < 4 → fragment_of (fragment_code (fragment n)) ≡ Some (fragment n)
unfolding fragment_of meaning
fragment_read = under_four (λ (n : ℕ). fragment_of (fragment_code (fragment n)) ≡ Some (fragment n)) refl refl refl refl

pub express_read : delimiter_of express_code ≡ D.Express
unfolding delimiter_of meaning
express_read = refl

pub verify_read : delimiter_of verify_code ≡ D.Verify
unfolding delimiter_of meaning
verify_read = refl

pub respond_read : delimiter_of respond_code ≡ D.Respond
unfolding delimiter_of meaning
respond_read = refl
