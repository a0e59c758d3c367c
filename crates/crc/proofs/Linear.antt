-- The bit step is linear over xor, and zeros in the low bits shift out: so octets may be put in one by one or four at once.
-- Assumes nothing.
use mathlib.Core.Path.{◌≡◌, refl, ap, ap₂, ◌∙◌}
use Prim.Native.Nat.{ℕ, zero, suc, ◌+◌, ◌*◌, ◌/◌, ◌%◌, ◌^◌, ◌<◌}
use native.Mathlib.Nat.{mul-one, zero-add, suc-add}
use lib.Bits.{bit_xor, shifted_half, shifted_even}
use Rattle.crc.specs.Crc.{polynomial, bit_step, bit_steps}
use Rattle.crc.proofs.Xor.{bit, odd_lt, xor_half, xor_odd, xor_swap}

-- the polynomial, taken or not
taken : (p q : ℕ) → p < 2 → q < 2 → bit_xor p q * polynomial ≡ bit_xor (p * polynomial) (q * polynomial)
taken p q hp hq =
    bit (λ (x : ℕ). bit_xor x q * polynomial ≡ bit_xor (x * polynomial) (q * polynomial)) refl
    (bit (λ (y : ℕ). bit_xor 1 y * polynomial ≡ bit_xor (1 * polynomial) (y * polynomial)) refl refl q hq) p hp

step_xor : (a b : ℕ) → bit_step (bit_xor a b) ≡ bit_xor (bit_step a) (bit_step b)
unfolding bit_step
step_xor a b =
    ap₂ (λ (x y : ℕ). bit_xor (x * polynomial) y) (xor_odd a b) (xor_half a b)
    ∙ ap (λ (x : ℕ). bit_xor x (bit_xor (a / 2) (b / 2))) (taken (a % 2) (b % 2) (odd_lt a) (odd_lt b))
    ∙ xor_swap (a % 2 * polynomial) (b % 2 * polynomial) (a / 2) (b / 2)

pub steps_xor : (n a b : ℕ) → bit_steps n (bit_xor a b) ≡ bit_xor (bit_steps n a) (bit_steps n b)
unfolding bit_steps
steps_xor zero a b = refl
steps_xor (suc n) a b = ap (bit_steps n) (step_xor a b) ∙ steps_xor n (bit_step a) (bit_step b)

-- zeros in the low bits shift out
step_shifted : (a k : ℕ) → bit_step (a * 2 ^ suc k) ≡ a * 2 ^ k
unfolding bit_step
step_shifted a k = ap₂ (λ (x y : ℕ). bit_xor (x * polynomial) y) (shifted_even a k) (shifted_half a k)

pub steps_shifted : (k a : ℕ) → bit_steps k (a * 2 ^ k) ≡ a
unfolding bit_steps
steps_shifted zero a = mul-one a
steps_shifted (suc k) a = ap (bit_steps k) (step_shifted a k) ∙ steps_shifted k a

-- n steps and m more
pub steps_add : (n m a : ℕ) → bit_steps (n + m) a ≡ bit_steps m (bit_steps n a)
unfolding bit_steps
steps_add zero m a = ap (λ (k : ℕ). bit_steps k a) (zero-add m)
steps_add (suc n) m a = ap (λ (k : ℕ). bit_steps k a) (suc-add n m) ∙ steps_add n m (bit_step a)
