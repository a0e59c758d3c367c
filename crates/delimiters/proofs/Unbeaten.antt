-- A difference of two bits or less from one of the eleven is the distance, because any two of them are four bits apart and the numbers of
-- bits by which octets differ obey the triangle law. Assumes nothing.
use mathlib.Core.Path.{◌≡◌, ap, ap₂, subst, ◌∙◌}
use Prim.Native.Nat.{ℕ, zero, suc, ◌+◌, ◌-◌, ◌/◌, ◌%◌, ◌≤◌, ◌<◌}
use native.Mathlib.Decide.{dec_lt}
use native.Mathlib.Omega.{arith}
use lib.Arith.{half_le}
use lib.Bits.{bit_xor, differ, xor_step, xor_comm, xor_lt}
use lib.Count.{ones, ones_step, ones-le}
use lib.ListN.{get_or}
use Rattle.delimiters.specs.Delimiters.{eleven, differing, distance_of}
use Rattle.delimiters.proofs.Bits.{four_apart, nearest}

-- how far apart two digits are, and the triangle law for them
apart : (x y : ℕ) → differ x y ≡ (x - y) + (y - x)
apart zero y = omega arith
apart (suc x) zero = omega arith
apart (suc x) (suc y) = omega (arith, apart x y)

digit : (x y z : ℕ) → differ x z ≤ differ x y + differ y z
digit x y z = omega (arith, apart x z, apart x y, apart y z)

-- two numbers differ in their lowest digits, and in what stands above them
differing_step : (x y : ℕ) → differing x y ≡ differ (x % 2) (y % 2) + differing (x / 2) (y / 2)
differing_step x y =
    let d = apart (x % 2) (y % 2) in
    let s = xor_step x y in
    let low : bit_xor x y % 2 ≡ differ (x % 2) (y % 2) = omega arith in
    let high : bit_xor x y / 2 ≡ bit_xor (x / 2) (y / 2) = omega arith in
    ones_step (bit_xor x y) ∙ ap₂ (λ (m n : ℕ). m + ones n) low high

-- the triangle law of numbers up to n, which have no more than n digits
up_to : (n x y z : ℕ) → x ≤ n → y ≤ n → z ≤ n → differing x z ≤ differing x y + differing y z
up_to zero x y z a b c = omega (arith, ones-le 0 (bit_xor x z) (xor_lt 0 x z (omega arith) (omega arith)))
up_to (suc n) x y z a b c =
    let low = digit (x % 2) (y % 2) (z % 2) in
    let high = up_to n (x / 2) (y / 2) (z / 2) (half_le a) (half_le b) (half_le c) in
    omega (arith, differing_step x z, differing_step x y, differing_step y z)

-- the triangle law: from x to z there are no more bits than by way of y
pub triangle : (x y z : ℕ) → differing x z ≤ differing x y + differing y z
triangle x y z = up_to (x + y + z) x y z (omega arith) (omega arith) (omega arith)

-- so an octet differs from two of the eleven in four bits or more, taken together
from_two : (x i j : ℕ) → i < j → j < 11 → 4 ≤ differing x (get_or eleven i 0) + differing x (get_or eleven j 0)
from_two x i j h k =
    let e : differing (get_or eleven i 0) x ≡ differing x (get_or eleven i 0) = ap ones (xor_comm (get_or eleven i 0) x) in
    omega (arith, four_apart i j h k, triangle (get_or eleven i 0) x (get_or eleven j 0))

-- "a difference of two or less can't be beaten" (document 02, (iii))
pub unbeaten : (x i : ℕ) → x < 256 → i < 11 → differing x (get_or eleven i 0) ≤ 2 → differing x (get_or eleven i 0) ≡ distance_of x
unbeaten x i h k two =
    let n = nearest x h in
    let j = n.reached.0 in
    let there = n.reached.1.1 in
    let least = n.least i k in
    elim (dec_lt i j) [
      | yes before ↦ omega (arith, from_two x i j before n.reached.1.0)
      | no a ↦ elim (dec_lt j i) [
        | yes behind ↦ omega (arith, from_two x j i behind k)
        | no b ↦ (let same : j ≡ i = omega arith in subst (λ (m : ℕ). differing x (get_or eleven m 0) ≡ distance_of x) same there)
      ]
    ]
