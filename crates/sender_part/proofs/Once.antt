-- No second end and no second kind meets a promise of this crate.
-- Assumes nothing.
use mathlib.Core.Path.{◌≡◌, sym, ◌∙◌}
use Prim.Native.Nat.{ℕ}
use Rattle.std.specs.Prelude.{Option}
use Rattle.mframe.specs.declared.Kind.{Kind}
use Rattle.sender_record.specs.declared.Record.{Record}
use Rattle.sender_part.specs.Parts.{Ends, kind_of}
use Rattle.sender_part.specs.declared.End.{End}

-- stretch
pub stretch_once : (r : Record) (n : ℕ) (p : Option ℕ) {e f : End} → Ends r n p e → Ends r n p f → e ≡ f
stretch_once r n p {e} {f} h k =
    let a : e.to ≡ f.to = h.end ∙ sym k.end in
    let b : e.done ≡ f.done = h.done ∙ sym k.done in
    λ i. record { to = a i; done = b i }

-- kind
pub kind_once : (r : Record) {x y : Kind} → x ≡ kind_of r → y ≡ kind_of r → x ≡ y
kind_once r p q = p ∙ sym q
