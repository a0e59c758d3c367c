-- `preambles::lead` meets its contract.
use Rattle.preambles.specs.Preamble.{Front}
use Rattle.preambles.proofs.lead.Given as goal

abbrev pub invariant-loop-n : goal.invariant-loop-n
invariant-loop-n l = Front l.mframe l.n
