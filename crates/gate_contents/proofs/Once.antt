-- No second answer meets a promise of this crate.
-- Assumes nothing.
use mathlib.Core.Path.{◌≡◌, sym, ◌∙◌}
use mathlib.Core.List.{List}
use Prim.Native.Nat.{ℕ}
use Rattle.octets.specs.Laid.{over}
use Rattle.gate_entries.specs.Entries.{Entry}
use Rattle.gate_lists.specs.Lists.{entries_from, octets_of_all}

-- put_entries: each word of the memory lent
pub put_entries_once : (s : List ℕ) (n : ℕ) (out : List Entry) {x y : List Entry}
    → x ≡ over (entries_from n s 0) out → y ≡ over (entries_from n s 0) out → x ≡ y
put_entries_once s n out p q = p ∙ sym q

-- put_octets: each octet
pub put_octets_once : (es : List Entry) (out : List ℕ) {x y : List ℕ} → x ≡ over (octets_of_all es) out → y ≡ over (octets_of_all es) out → x ≡ y
put_octets_once es out p q = p ∙ sym q
