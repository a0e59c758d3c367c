-- Laws of the register and of the check octets, for callers.
-- Assumes nothing.
use mathlib.Core.Path.{◌≡◌, refl, sym, ap, ◌∙◌}
use mathlib.Core.List.{List, [], ◌∷◌, ◌++◌, map}
use Prim.Native.Nat.{ℕ, zero, suc, ◌+◌, ◌-◌, ◌*◌, ◌/◌, ◌%◌, ◌^◌, ◌≤◌, ◌<◌}
use native.Mathlib.Numerals.{add-one}
use native.Mathlib.Omega.{arith}
use lib.Bits.{bit_xor, xor_lt}
use lib.ListN.{length, take, drop, get_or, drop_of_length-le}
use lib.Seq.{drop-cons}
use Rattle.fours.specs.Word.{octets_of}
use Rattle.fours.proofs.Words.{octets_inj}
use Rattle.crc.specs.Crc.{polynomial, bit_step, bit_steps, octet_step, register_over, all_ones, fcs_of, inverted, mcrc_of}

-- more octets go on from the register of those before
pub register_append : (r : ℕ) (xs ys : List ℕ) → register_over r (xs ++ ys) ≡ register_over (register_over r xs) ys
unfolding register_over
register_append r [] ys = refl
register_append r (x ∷ xs) ys = register_append (octet_step r x) xs ys

-- a loop's turn, and its end
pub register_turn : (r : ℕ) (s : List ℕ) (i : ℕ) → i < length s → register_over r (drop i s) ≡ register_over (octet_step r (get_or s i 0)) (drop (i + 1) s)
unfolding register_over
register_turn r s i h = rw (add-one i, drop-cons s i 0 h) refl

pub register_end : (r : ℕ) (s : List ℕ) (i : ℕ) → length s ≤ i → register_over r (drop i s) ≡ r
unfolding register_over
register_end r s i h = ap (register_over r) (drop_of_length-le s h)

-- a register has 32 bits
step_lt : (r : ℕ) → r < 2 ^ 32 → bit_step r < 2 ^ 32
unfolding bit_step
step_lt r h = xor_lt 32 (r % 2 * polynomial) (r / 2) (omega arith) (omega arith)

steps_lt : (n r : ℕ) → r < 2 ^ 32 → bit_steps n r < 2 ^ 32
unfolding bit_steps
steps_lt zero r h = h
steps_lt (suc n) r h = steps_lt n (bit_step r) (step_lt r h)

octet_lt : (r x : ℕ) → r < 2 ^ 32 → x < 256 → octet_step r x < 2 ^ 32
unfolding octet_step
octet_lt r x hr hx = steps_lt 8 (bit_xor r x) (xor_lt 32 r x hr (omega arith))

pub register_lt : (r : ℕ) (xs : List ℕ) → r < 2 ^ 32 → ((i : ℕ) → get_or xs i 0 < 256) → register_over r xs < 2 ^ 32
unfolding register_over
register_lt r [] hr hx = hr
register_lt r (x ∷ xs) hr hx = register_lt (octet_step r x) xs (octet_lt r x hr (hx 0)) (λ i. hx (suc i))

-- four check octets
pub fcs_length : (r : ℕ) → length (fcs_of r) ≡ 4
unfolding fcs_of octets_of
fcs_length r = refl

pub mcrc_length : (r : ℕ) → length (mcrc_of r) ≡ 4
unfolding mcrc_of fcs_of octets_of
mcrc_length r = refl

-- no register's FCS is its mCRC
pub fcs_not_mcrc : (r : ℕ) → fcs_of r ≡ mcrc_of r → ⊥
unfolding fcs_of mcrc_of octets_of
fcs_not_mcrc r e =
    let third : (all_ones - r) / 65536 % 256 ≡ 255 - (all_ones - r) / 65536 % 256 = ap (λ (l : List ℕ). get_or l 2 0) e in
    omega arith

-- the check octets determine the register
pub fcs_inj : (r s : ℕ) → r < 2 ^ 32 → s < 2 ^ 32 → fcs_of r ≡ fcs_of s → r ≡ s
unfolding fcs_of
fcs_inj r s hr hs e = let w : all_ones - r ≡ all_ones - s = octets_inj (all_ones - r) (all_ones - s) (omega arith) (omega arith) e in omega arith

-- inverting the last two octets once more gives the FCS back
pub octet_back : (x : ℕ) → 255 - (255 - x % 256) ≡ x % 256
octet_back x = omega arith

mcrc_back : (r : ℕ) → take 2 (mcrc_of r) ++ map inverted (drop 2 (mcrc_of r)) ≡ fcs_of r
unfolding mcrc_of fcs_of octets_of
mcrc_back r =
    let w : ℕ = all_ones - r in
    ap (λ (x : ℕ). w % 256 ∷ w / 256 % 256 ∷ x ∷ inverted (inverted (w / 16777216 % 256)) ∷ []) (octet_back (w / 65536))
    ∙ ap (λ (x : ℕ). w % 256 ∷ w / 256 % 256 ∷ w / 65536 % 256 ∷ x ∷ []) (octet_back (w / 16777216))

pub mcrc_inj : (r s : ℕ) → r < 2 ^ 32 → s < 2 ^ 32 → mcrc_of r ≡ mcrc_of s → r ≡ s
mcrc_inj r s hr hs e =
    fcs_inj r s hr hs (sym (mcrc_back r) ∙ ap (λ (l : List ℕ). take 2 l ++ map inverted (drop 2 l)) e ∙ mcrc_back s)
