-- No second answer meets a promise of this crate.
-- Assumes nothing.
use mathlib.Core.Path.{◌≡◌, sym, ◌∙◌}
use mathlib.Core.List.{List}
use Prim.Native.Nat.{ℕ}
use Rattle.mframe.specs.declared.Kind.{Kind}
use Rattle.receiver_record.specs.declared.Record.{Record}
use Rattle.outcomes.specs.declared.Received.{Received}
use Rattle.outcomes.specs.Outcomes.{told}
use Rattle.outcomes.proofs.Once.{told_one}
use Rattle.assembly.specs.Steps.{step_of}

-- decide
pub decide_once : (kind : Kind) (octets : List ℕ) (r : Record) {x y : Received} → told x ≡ step_of kind octets r → told y ≡ step_of kind octets r → x ≡ y
decide_once kind octets r p q = told_one (p ∙ sym q)
