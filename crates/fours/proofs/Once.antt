-- No second answer meets a promise of this crate.
-- Assumes nothing.
use mathlib.Core.Path.{◌≡◌, sym, ◌∙◌}
use mathlib.Core.List.{List}
use Prim.Native.Nat.{ℕ}
use Rattle.fours.specs.Word.{word_of, word_at, octets_of}

-- joined
pub joined_once : (a b c d : ℕ) {x y : ℕ} → x ≡ word_of a b c d → y ≡ word_of a b c d → x ≡ y
joined_once a b c d p q = p ∙ sym q

-- load
pub load_once : (octets : List ℕ) (i : ℕ) {x y : ℕ} → x ≡ word_at octets i → y ≡ word_at octets i → x ≡ y
load_once octets i p q = p ∙ sym q

-- split
pub split_once : (w : ℕ) {x y : List ℕ} → x ≡ octets_of w → y ≡ octets_of w → x ≡ y
split_once w p q = p ∙ sym q
