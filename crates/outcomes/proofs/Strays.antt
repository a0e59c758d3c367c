-- The refusals by the head that are delimiter errors are those whose number is one.
-- Assumes nothing.
use mathlib.Core.Path.{◌≡◌, refl}
use Rattle.faults.specs.Faults.{fault_number}
use Rattle.faults.specs.declared.Fault.{Fault}
use Rattle.faults.specs.declared.Fault.TheVariants.{Short, Long, Preamble, Delimiter, Fragment}
use Rattle.outcomes.specs.Outcomes.{delimiter_error, is_stray}

pub stray_numbered : (why : Fault) → is_stray why ≡ delimiter_error (fault_number why)
stray_numbered Short = refl
stray_numbered Long = refl
stray_numbered Preamble = refl
stray_numbered (Delimiter bits) = refl
stray_numbered Fragment = refl
