-- No second answer meets the promise of this crate.
-- Assumes nothing.
use mathlib.Core.Path.{◌≡◌, sym, ◌∙◌}
use mathlib.Core.List.{List}
use Prim.Native.Nat.{ℕ}
use Rattle.codes.specs.declared.FrameCount.{FrameCount}
use Rattle.codes.specs.declared.FragmentCount.{FragmentCount}
use Rattle.receiver_record.specs.declared.Record.{Record}
use Rattle.outcomes.specs.declared.Received.{Received}
use Rattle.outcomes.specs.Outcomes.{told}
use Rattle.outcomes.proofs.Once.{told_one}
use Rattle.continuing.specs.Continuing.{continuation_of}

-- continuation
pub continuation_once : (f : FrameCount) (g : FragmentCount) (octets : List ℕ) (r : Record) {x y : Received} → told x ≡ continuation_of f g octets r
    → told y ≡ continuation_of f g octets r → x ≡ y
continuation_once f g octets r p q = told_one (p ∙ sym q)
