-- Document 01, "Marked examples", with the cuts that document 02, (ii) puts in place of four: what is asked of the definitions that the
-- contracts cite, and what the paper says.
-- Assumes nothing.
use Rattle.std.specs.Prelude.{List, [], ◌∷◌, ℕ, Option, Some, None}
use Rattle.crc.specs.Crc.{all_ones, register_over, fcs_of, mcrc_of}
use Rattle.delimiters.specs.Delimiters.{distance_of}
use Rattle.cut.specs.Cut.{minimum, part_of}

-- the nine ASCII octets "123456789"
abbrev pub nine : List ℕ
nine = 0x31 ∷ 0x32 ∷ 0x33 ∷ 0x34 ∷ 0x35 ∷ 0x36 ∷ 0x37 ∷ 0x38 ∷ 0x39 ∷ []

-- check octets of a frame, the cut with s 0 (after how many octets, or none), the bits of an octet
pub data Question : Type 0 where
  fcs : List ℕ → Question
  mcrc : List ℕ → Question
  cut : (extra L t : ℕ) → Question
  bits : ℕ → Question

pub data Answer : Type 0 where
  octets : List ℕ → Answer
  part : Option ℕ → Answer
  number : ℕ → Answer

abbrev pub answer : Question → Answer
answer (fcs frame) = octets (fcs_of (register_over all_ones frame))
answer (mcrc frame) = octets (mcrc_of (register_over all_ones frame))
answer (cut extra L t) = part (part_of L 0 (minimum extra) (Some t))
answer (bits octet) = number (distance_of octet)

pub record Example : Type 0 where
  pub asked : Question
  pub says : Answer

infixl 5 ◌⇒◌
abbrev pub ◌⇒◌ : Question → Answer → Example
q ⇒ a = record { asked = q; says = a }

abbrev pub table : List Example
table =
    (fcs nine ⇒ octets (0x26 ∷ 0x39 ∷ 0xF4 ∷ 0xCB ∷ []))
    ∷ (mcrc nine ⇒ octets (0x26 ∷ 0x39 ∷ 0x0B ∷ 0x34 ∷ []))
    ∷ (cut 0 124 0 ⇒ part (Some 60))
    ∷ (cut 0 123 0 ⇒ part None)
    ∷ (cut 0 128 65 ⇒ part None)
    ∷ (cut 0 1522 1458 ⇒ part (Some 1458))
    ∷ (cut 0 1522 1459 ⇒ part None)
    ∷ (cut 3 316 0 ⇒ part (Some 252))
    ∷ (bits 0xAD ⇒ number 4)
    ∷ (bits 0x55 ⇒ number 1)
    ∷ (bits 0xD4 ⇒ number 1)
    ∷ []
