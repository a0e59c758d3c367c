-- The check octets as numbers.
-- Assumes nothing.
use mathlib.Core.Path.{◌≡◌, refl, ap, ap₂, ◌∙◌}
use mathlib.Core.List.{[], ◌∷◌}
use Prim.Native.Nat.{ℕ, ◌-◌, ◌/◌, ◌%◌, ◌^◌, ◌<◌}
use native.Mathlib.Omega.{arith}
use lib.Bits.{bit_xor, bit_and, xor_shr, xor_mod, xor_zero_r, xor_add_and, and_mask}
use Rattle.fours.specs.Word.{octets_of}
use Rattle.crc.specs.Crc.{all_ones, fcs_of, inverted, mcrc_of}

pub fcs_octets : (r : ℕ) → octets_of (all_ones - r) ≡ fcs_of r
unfolding fcs_of
fcs_octets r = refl

-- xor goes octet by octet; with 0 it changes nothing, with 255 it inverts
octet_xor : (k a b : ℕ) → bit_xor a b / 2 ^ k % 256 ≡ bit_xor (a / 2 ^ k % 256) (b / 2 ^ k % 256)
octet_xor k a b = ap (λ (x : ℕ). x % 256) (xor_shr a b k) ∙ xor_mod (a / 2 ^ k) (b / 2 ^ k) 8

xor_inverts : (x : ℕ) → bit_xor (x % 256) 255 ≡ inverted (x % 256)
xor_inverts x =
    let sum = xor_add_and (x % 256) 255 in
    let low : bit_and (x % 256) 255 ≡ x % 256 % 256 = and_mask (x % 256) 8 in
    let once : x % 256 % 256 ≡ x % 256 = omega arith in
    let top : x % 256 < 256 = omega arith in
    omega arith

-- the bits of the last two octets
abbrev last_two : ℕ
last_two = 0xFFFF_0000

pub mcrc_octets : (r : ℕ) → octets_of (bit_xor (all_ones - r) last_two) ≡ mcrc_of r
unfolding mcrc_of fcs_of octets_of
mcrc_octets r =
    let w : ℕ = all_ones - r in
    ap₂ (λ (x y : ℕ). x ∷ y ∷ bit_xor w last_two / 65536 % 256 ∷ bit_xor w last_two / 16777216 % 256 ∷ [])
    (xor_mod w last_two 8 ∙ xor_zero_r (w % 256)) (octet_xor 8 w last_two ∙ xor_zero_r (w / 256 % 256))
    ∙ ap₂ (λ (x y : ℕ). w % 256 ∷ w / 256 % 256 ∷ x ∷ y ∷ [])
    (octet_xor 16 w last_two ∙ xor_inverts (w / 65536)) (octet_xor 24 w last_two ∙ xor_inverts (w / 16777216))
