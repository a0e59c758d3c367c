-- No second answer meets a promise of this crate.
-- Assumes nothing.
use mathlib.Core.Path.{◌≡◌, sym, ◌∙◌}
use mathlib.Core.List.{List}
use Prim.Native.Nat.{ℕ}
use Rattle.pcap_fields.specs.Fields.{half_in, word_in}
use Rattle.pcap_fields.specs.declared.Order.{Order}

-- half
pub half_once : (o : Order) (octets : List ℕ) (i : ℕ) {x y : ℕ} → x ≡ half_in o octets i → y ≡ half_in o octets i → x ≡ y
half_once o octets i p q = p ∙ sym q

-- word
pub word_once : (o : Order) (octets : List ℕ) (i : ℕ) {x y : ℕ} → x ≡ word_in o octets i → y ≡ word_in o octets i → x ≡ y
word_once o octets i p q = p ∙ sym q
