-- No second answer meets the promise of this crate.
-- Assumes nothing.
use mathlib.Core.Path.{◌≡◌, sym, ◌∙◌}
use Rattle.codes.specs.declared.FrameCount.{FrameCount}
use Rattle.endings.specs.declared.Ending.{Ending}
use Rattle.receiver_record.specs.declared.Record.{Record}
use Rattle.outcomes.specs.declared.Received.{Received}
use Rattle.outcomes.specs.Outcomes.{told}
use Rattle.outcomes.proofs.Once.{told_one}
use Rattle.starting.specs.Starting.{start_of}

-- start
pub start_once : (frame : FrameCount) (e : Ending) (r : Record) {x y : Received} → told x ≡ start_of frame e r → told y ≡ start_of frame e r → x ≡ y
start_once frame e r p q = told_one (p ∙ sym q)
