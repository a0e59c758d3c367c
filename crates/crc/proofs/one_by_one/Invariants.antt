-- `crc::one_by_one` meets its contract. The invariant: what is left, from the register now, makes the register asked for.
use mathlib.Core.Path.{◌≡◌}
use lib.ListN.{drop}
use Rattle.crc.specs.Crc.{register_over}
use Rattle.crc.proofs.one_by_one.Given as goal

abbrev pub invariant-loop-octet : goal.invariant-loop-octet
invariant-loop-octet l = register_over l.r (drop l.octet-index l.octets) ≡ register_over l.register l.octets
