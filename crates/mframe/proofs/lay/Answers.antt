-- `mframe::lay` meets its contract: three pieces laid one behind the other.
use mathlib.Core.Path.{refl, sym, ap, ◌∙◌}
use Prim.Native.Nat.{◌+◌}
use native.Mathlib.Omega.{arith}
use lib.ListN.{length}
use Rattle.octets.specs.Laid.{laid}
use Rattle.octets.proofs.Laid.{three}
use Rattle.mframe.specs.Octets.{header_of}
use Rattle.mframe.proofs.Laws.{header_length, mframe_length}
use Rattle.mframe.proofs.lay.Goals as goal

pub returns : goal.returns
returns c =
    let a = c.args in
    let put = c.copy_into.ensures ∙ ap (laid a.out.now 0) c.header.ensures in
    record {
      octets = three a.out.now (header_of a.kind) a.part.now a.check 8 (8 + length a.part.now) put
          c.copy_into-2.ensures c.copy_into-3.ensures (sym (header_length a.kind)) refl (omega arith);
      count = omega (arith, mframe_length a.kind a.part.now a.check);
    }
