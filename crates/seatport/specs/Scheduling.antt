-- The calls on the hall's schedule as C sees them: the number that is returned, the one that goes with it, the length of the cycle, and all
-- of the lent output. Assumes nothing.
use Rattle.std.specs.Prelude.{◌≡◌, List, ℕ}
use Rattle.octets.specs.Laid.{over}
use Rattle.gate_lists.specs.Lists.{number_of, value_of}
use Rattle.gate_events.specs.Events.{Event}
use Rattle.gates.specs.Gates.{Outcome, cycle_of}

-- the promise of reading and of writing: the number, the one that goes with it, and all of the output, which was out and is out'
pub record Scheduled {A : Type 0} (p : Outcome A) (out : List A) (number count : ℕ) (out' : List A) : Type 0 where
  pub answer : number ≡ number_of p.answer
  pub value : count ≡ value_of p.answer
  pub output : out' ≡ over p.output out

-- the promise of listing the events of a list s: the same, and the length of the cycle
pub record Listed (p : Outcome Event) (s : List ℕ) (out : List Event) (number count length : ℕ) (out' : List Event) : Type 0 where
  pub answer : number ≡ number_of p.answer
  pub value : count ≡ value_of p.answer
  pub cycle : length ≡ cycle_of p.answer s
  pub output : out' ≡ over p.output out
