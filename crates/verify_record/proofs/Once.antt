-- No second answer meets a promise of this crate.
-- Assumes nothing.
use mathlib.Core.Path.{◌≡◌, refl, sym, ap, ◌∙◌}
use mathlib.Core.Bool.{Bool}
use Prim.Native.Nat.{ℕ, ◌≤◌}
use Rattle.std.specs.Prelude.{Result, Ok, Err, OkIff}
use Rattle.verify_record.specs.Phases.{phase_number, phase_of}
use Rattle.verify_record.specs.Ranges.{is_wait, fresh, is_off, is_trying, in_range}
use Rattle.verify_record.specs.declared.Phase.{Phase}
use Rattle.verify_record.specs.declared.Record.{Record}
use Rattle.verify_record.specs.declared.UnknownPhase.{UnknownPhase}

-- is_wait
pub is_wait_once : (n : ℕ) {x y : Bool} → x ≡ is_wait n → y ≡ is_wait n → x ≡ y
is_wait_once n p q = p ∙ sym q

-- u32::from of a phase, and Phase::try_from
pub from_phase_once : (p : Phase) {x y : ℕ} → x ≡ phase_number p → y ≡ phase_number p → x ≡ y
from_phase_once p q r = q ∙ sym r

pub to_phase_once : (n : ℕ) (x y : Result Phase UnknownPhase) → OkIff x (n ≤ 3) (phase_of n) → OkIff y (n ≤ 3) (phase_of n) → x ≡ y
to_phase_once n (Ok p) (Ok q) h k = ap Ok (h.1 ∙ sym k.1)
to_phase_once n (Ok p) (Err e) h k = absurd (k h.0)
to_phase_once n (Err e) (Ok q) h k = absurd (h k.0)
to_phase_once n (Err e) (Err f) h k = refl

-- Record::fresh
pub fresh_once : {x y : Record} → x ≡ fresh → y ≡ fresh → x ≡ y
fresh_once p q = p ∙ sym q

-- Record::is_off
pub is_off_once : (r : Record) {x y : Bool} → x ≡ is_off r.phase → y ≡ is_off r.phase → x ≡ y
is_off_once r p q = p ∙ sym q

-- Record::is_trying
pub is_trying_once : (r : Record) {x y : Bool} → x ≡ is_trying r.phase → y ≡ is_trying r.phase → x ≡ y
is_trying_once r p q = p ∙ sym q

-- Record::in_range
pub in_range_once : (r : Record) {x y : Bool} → x ≡ in_range r → y ≡ in_range r → x ≡ y
in_range_once r p q = p ∙ sym q
