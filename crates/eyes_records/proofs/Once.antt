-- No second answer meets the promise of this crate.
-- Assumes nothing.
use mathlib.Core.Path.{◌≡◌, sym, ◌∙◌}
use mathlib.Core.List.{List}
use Prim.Native.Nat.{ℕ}
use Rattle.receiver_record.specs.declared.Record.{Record}
use Rattle.eyes_records.specs.Shown.{Shows}

-- put_shown_record: the receiver's record, and each octet of its buffer and of the memory lent
pub put_shown_record_once : (m : List ℕ) (r : Record) (b out : List ℕ) (at : ℕ) {x y : Record} {b₁ b₂ out₁ out₂ : List ℕ}
    → Shows m r b out at x b₁ out₁ → Shows m r b out at y b₂ out₂ → (x ≡ y) × ((b₁ ≡ b₂) × (out₁ ≡ out₂))
put_shown_record_once m r b out at p q = (p.after_is ∙ sym q.after_is, (p.buffer ∙ sym q.buffer, p.octets ∙ sym q.octets))
