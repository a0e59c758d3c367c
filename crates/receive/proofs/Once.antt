-- No second answer, and no other octets, meet the promise of this crate.
-- Assumes nothing.
use mathlib.Core.Path.{◌≡◌, sym, ◌∙◌}
use mathlib.Core.List.{List}
use Prim.Native.Nat.{ℕ}
use Rattle.receiver_record.specs.declared.Record.{Record}
use Rattle.outcomes.specs.declared.Received.{Received}
use Rattle.outcomes.proofs.Once.{told_one}
use Rattle.receive.specs.Receive.{Answered}

-- receive: the answer, the record and each octet of the buffer
pub receive_once : (m : List ℕ) (r : Record) (b : List ℕ) {x y : Received} {p q : List ℕ} → Answered m r b x p → Answered m r b y q → (x ≡ y) × (p ≡ q)
receive_once m r b f g = (told_one (f.step ∙ sym g.step), f.octets ∙ sym g.octets)
