-- The standard's mCRC beside document 01's: of the FCS each keeps the two octets that the other inverts, so each is the other inverted. Whoever
-- corrects document 01's rule has no more use for this file.
-- Assumes nothing.
use mathlib.Core.Path.{◌≡◌, refl, ap, ap₂, ◌∙◌}
use mathlib.Core.List.{[], ◌∷◌, ◌++◌, map}
use Prim.Native.Nat.{ℕ, ◌-◌, ◌/◌, ◌%◌, ◌<◌}
use native.Mathlib.Omega.{arith}
use lib.ListN.{length, take, drop}
use Rattle.fours.specs.Word.{word_of, octets_of}
use Rattle.fours.proofs.Words.{digits}
use Rattle.crc.specs.Crc.{all_ones, fcs_of, inverted, mcrc_of, standard_mcrc_of}
use Rattle.crc.proofs.Laws.{octet_back}

pub standard_length : (r : ℕ) → length (standard_mcrc_of r) ≡ 4
unfolding standard_mcrc_of fcs_of octets_of
standard_length r = refl

-- both by the FCS: the half that each keeps
pub halves : (r : ℕ) → take 2 (mcrc_of r) ++ drop 2 (standard_mcrc_of r) ≡ fcs_of r
unfolding mcrc_of standard_mcrc_of fcs_of octets_of
halves r = refl

-- and each by the other
pub standard_inverts : (r : ℕ) → map inverted (mcrc_of r) ≡ standard_mcrc_of r
unfolding mcrc_of standard_mcrc_of fcs_of octets_of
standard_inverts r =
    let w : ℕ = all_ones - r in
    ap₂ (λ (x y : ℕ). inverted (w % 256) ∷ inverted (w / 256 % 256) ∷ x ∷ y ∷ []) (octet_back (w / 65536)) (octet_back (w / 16777216))

pub mcrc_inverts : (r : ℕ) → map inverted (standard_mcrc_of r) ≡ mcrc_of r
unfolding mcrc_of standard_mcrc_of fcs_of octets_of
mcrc_inverts r =
    let w : ℕ = all_ones - r in
    ap₂ (λ (x y : ℕ). x ∷ y ∷ inverted (w / 65536 % 256) ∷ inverted (w / 16777216 % 256) ∷ []) (octet_back w) (octet_back (w / 256))

-- four octets inverted as one number
pub inverted_word : (a b c d : ℕ) → a < 256 → b < 256 → c < 256 → d < 256 → octets_of (all_ones - word_of a b c d) ≡ map inverted (a ∷ b ∷ c ∷ d ∷ [])
inverted_word a b c d ha hb hc hd =
    let e : all_ones - word_of a b c d ≡ word_of (inverted a) (inverted b) (inverted c) (inverted d) = omega arith in
    ap octets_of e ∙ digits (inverted a) (inverted b) (inverted c) (inverted d) (omega arith) (omega arith) (omega arith) (omega arith)
