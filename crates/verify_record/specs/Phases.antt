-- The phases by number, as C sees them.
-- Assumes nothing.
use Rattle.std.specs.Prelude.{cond, ℕ, eqb}
use Rattle.verify_record.specs.declared.Phase.{Phase}
use Rattle.verify_record.specs.declared.Phase.TheVariants.{Off, Trying, Verified, Failed}

abbrev pub phase_number : Phase → ℕ
phase_number Off = 0
phase_number Trying = 1
phase_number Verified = 2
phase_number Failed = 3

abbrev pub phase_of : ℕ → Phase
phase_of n = cond (eqb n 0) Off (cond (eqb n 1) Trying (cond (eqb n 2) Verified Failed))
