-- No second answer meets a promise of this crate.
-- Assumes nothing.
use mathlib.Core.Path.{◌≡◌, sym, ◌∙◌}
use mathlib.Core.List.{List}
use Prim.Native.Nat.{ℕ, ◌^◌, ◌<◌}
use Rattle.fours.specs.Word.{octets_of}
use Rattle.fours.proofs.Words.{octets_inj}
use Rattle.crc.specs.Crc.{register_over, fcs_of, mcrc_of}

-- over
pub over_once : (r : ℕ) (octets : List ℕ) {x y : ℕ} → x ≡ register_over r octets → y ≡ register_over r octets → x ≡ y
over_once r octets p q = p ∙ sym q

-- fcs_word, mcrc_word: numbers of 32 bits
pub fcs_word_once : (r : ℕ) {x y : ℕ} → x < 2 ^ 32 → y < 2 ^ 32 → octets_of x ≡ fcs_of r → octets_of y ≡ fcs_of r → x ≡ y
fcs_word_once r hx hy p q = octets_inj _ _ hx hy (p ∙ sym q)

pub mcrc_word_once : (r : ℕ) {x y : ℕ} → x < 2 ^ 32 → y < 2 ^ 32 → octets_of x ≡ mcrc_of r → octets_of y ≡ mcrc_of r → x ≡ y
mcrc_word_once r hx hy p q = octets_inj _ _ hx hy (p ∙ sym q)

-- fcs
pub fcs_once : (r : ℕ) {x y : List ℕ} → x ≡ fcs_of r → y ≡ fcs_of r → x ≡ y
fcs_once r p q = p ∙ sym q

-- mcrc
pub mcrc_once : (r : ℕ) {x y : List ℕ} → x ≡ mcrc_of r → y ≡ mcrc_of r → x ≡ y
mcrc_once r p q = p ∙ sym q
