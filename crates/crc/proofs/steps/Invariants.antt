-- `crc::steps` meets its contract. The invariant: the steps that are left, from the register now, make what is asked for.
use mathlib.Core.Path.{◌≡◌}
use Prim.Native.Nat.{◌-◌}
use Rattle.crc.specs.Crc.{bit_steps}
use Rattle.crc.proofs.steps.Given as goal

abbrev pub invariant-loop : goal.invariant-loop
invariant-loop l = bit_steps (l.n - l.counter) l.r ≡ bit_steps l.n l.x
