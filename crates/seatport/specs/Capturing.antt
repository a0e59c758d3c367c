-- The calls on captures as C sees them: the number that is returned, the one that goes with it, and all of the lent output. Assumes nothing.
use Rattle.std.specs.Prelude.{◌≡◌, List, ℕ}
use Rattle.octets.specs.Laid.{over}
use Rattle.pcap_lists.specs.Lists.{number_of, value_of}
use Rattle.pcap.specs.Captures.{Outcome}

-- the promise of both: the number, the one that goes with it, and all of the output, which was out and is out'
pub record Captured (p : Outcome) (out : List ℕ) (number value : ℕ) (out' : List ℕ) : Type 0 where
  pub answer : number ≡ number_of p.answer
  pub goes_with : value ≡ value_of p.answer
  pub output : out' ≡ over p.output out
