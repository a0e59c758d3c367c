-- The numbers and details of a head's refusals (document 01, "Receiving", 12 to 15 and 17; 16 is no longer given, document 02, (vi)). Assumes nothing.
use Rattle.std.specs.Prelude.{ℕ}
use Rattle.faults.specs.declared.Fault.{Fault}
use Rattle.faults.specs.declared.Fault.TheVariants.{Short, Long, Preamble, Delimiter, Fragment}

abbrev pub fault_number : Fault → ℕ
fault_number Short = 12
fault_number Long = 13
fault_number Preamble = 14
fault_number (Delimiter bits) = 15
fault_number Fragment = 17

-- 15 comes "with the least number of bits by which it differs from any of the eleven"
abbrev pub fault_detail : Fault → ℕ
fault_detail Short = 0
fault_detail Long = 0
fault_detail Preamble = 0
fault_detail (Delimiter bits) = bits
fault_detail Fragment = 0
