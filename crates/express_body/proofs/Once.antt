-- No second answer meets a promise of this crate.
-- Assumes nothing.
use mathlib.Core.Path.{◌≡◌, sym, ap₂, ◌∙◌}
use mathlib.Core.List.{List}
use Prim.Native.Nat.{ℕ}
use denote.Ref.{Bor}
use Rattle.express_body.specs.Body.{part_in, HandedBack}
use Rattle.express_body.specs.declared.Part.{Part}

-- part_in
pub part_in_once : (m : List ℕ) {x y : Part} → x ≡ part_in m → y ≡ part_in m → x ≡ y
part_in_once m p q = p ∙ sym q

-- express_body: the octets, and where they lie
pub express_body_once : (mframe : Bor (List ℕ)) {x y : Bor (List ℕ)} → HandedBack mframe x → HandedBack mframe y → (x.now ≡ y.now) × (x.ref_ptr ≡ y.ref_ptr)
express_body_once mframe p q =
    (p.octets ∙ sym q.octets, ap₂ (λ (block offset : ℕ). (block, offset)) (p.block ∙ sym q.block) (p.offset ∙ sym q.offset))
