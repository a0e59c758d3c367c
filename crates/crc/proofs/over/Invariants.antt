-- `crc::over` meets its contract. The invariant: what is left, from the register now, makes the register asked for.
use mathlib.Core.Path.{◌≡◌}
use Prim.Native.Nat.{◌*◌}
use lib.ListN.{drop}
use Rattle.crc.specs.Crc.{register_over}
use Rattle.crc.proofs.over.Given as goal

abbrev pub invariant-loop-word : goal.invariant-loop-word
invariant-loop-word l = register_over l.r (drop (l.word-index * 4) l.octets) ≡ register_over l.register l.octets
