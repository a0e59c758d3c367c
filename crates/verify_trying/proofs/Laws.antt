-- A millisecond in trying: when each of its answers is given.
-- Assumes nothing.
use mathlib.Core.Path.{◌≡◌}
use mathlib.Core.Bool.{true, false}
use Prim.Native.Nat.{◌+◌, ◌-◌, ◌≤◌, ◌<◌}
use native.Mathlib.Omega.{arith}
use borrow.Author.Tests.{lt-ltb, le-ltb, eq-eqb, ne_eqb}
use Rattle.verify_record.specs.Ranges.{attempts}
use Rattle.verify_record.specs.declared.Phase.TheVariants.{Failed}
use Rattle.verify_record.specs.declared.Record.{Record}
use Rattle.verify_answers.specs.Answers.{takes}
use Rattle.verify_trying.specs.Trying.{rests, tries, at_zero, one_less}

pub waits : (r : Record) → 1 < r.left → one_less r ≡ takes (tries r.attempt (r.left - 1) r) false
unfolding one_less
waits r h = simp (ne_eqb (r.left - 1) 0 (omega arith))

pub tries_again : (r : Record) → r.left ≤ 1 → r.attempt < attempts → one_less r ≡ takes (tries (r.attempt + 1) r.wait r) true
unfolding one_less at_zero
tries_again r h k = simp (eq-eqb (r.left - 1) 0 (omega arith), lt-ltb _ _ k)

pub gives_up : (r : Record) → r.left ≤ 1 → attempts ≤ r.attempt → one_less r ≡ takes (rests Failed r) false
unfolding one_less at_zero
gives_up r h k = simp (eq-eqb (r.left - 1) 0 (omega arith), le-ltb _ _ k)
