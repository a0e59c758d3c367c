-- The check octets of document 01, "Octets of an mFrame": the IEEE 802.3 CRC with the reflected polynomial EDB88320, all ones at the start,
-- complemented, low octet first; and the mCRC. Assumes nothing.
use Rattle.std.specs.Prelude.{List, [], ◌∷◌, ◌++◌, map, ℕ, zero, suc, ◌-◌, ◌*◌, ◌/◌, ◌%◌, take, drop}
use Rattle.std.specs.Int.Bits.{bit_xor}
use Rattle.fours.specs.Word.{octets_of}

-- the polynomial, reflected
abbrev pub polynomial : ℕ
polynomial = 0xEDB8_8320

-- one bit: the register goes one place to the right, and the polynomial is put in where the bit that left was 1
unfoldable pub bit_step : ℕ → ℕ
bit_step r = bit_xor (r % 2 * polynomial) (r / 2)

-- n bits
unfoldable pub bit_steps : ℕ → ℕ → ℕ
bit_steps zero r = r
bit_steps (suc n) r = bit_steps n (bit_step r)

-- one octet: put into the register's low eight bits, then eight bits
unfoldable pub octet_step : ℕ → ℕ → ℕ
octet_step r x = bit_steps 8 (bit_xor r x)

-- the register after octets, from any register
unfoldable pub register_over : ℕ → List ℕ → ℕ
register_over r [] = r
register_over r (x ∷ xs) = register_over (octet_step r x) xs

-- the register before a frame's first octet
abbrev pub all_ones : ℕ
all_ones = 0xFFFF_FFFF

-- the FCS of a register: complemented, low octet first
unfoldable pub fcs_of : ℕ → List ℕ
fcs_of r = octets_of (all_ones - r)

-- an octet with its bits inverted
abbrev pub inverted : ℕ → ℕ
inverted x = 255 - x

-- the mCRC of a register: the FCS with its last two octets inverted
unfoldable pub mcrc_of : ℕ → List ℕ
mcrc_of r = take 2 (fcs_of r) ++ map inverted (drop 2 (fcs_of r))

-- the mCRC that the published standard has, and with it the usual viewer (docs/DECISIONS.md, 1): the FCS with its first two octets inverted. The
-- port neither sends nor takes it; a capture for eyes shows it.
unfoldable pub standard_mcrc_of : ℕ → List ℕ
standard_mcrc_of r = map inverted (take 2 (fcs_of r)) ++ drop 2 (fcs_of r)
