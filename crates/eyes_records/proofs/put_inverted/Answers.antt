-- `eyes_records::put_inverted` meets its contract.
use mathlib.Core.Path.{ap, ◌∙◌}
use Prim.Native.Nat.{ℕ, ◌-◌}
use native.Mathlib.Omega.{arith}
use Rattle.octets.specs.Laid.{laid}
use Rattle.fours.specs.Word.{octets_of}
use Rattle.crc.specs.Crc.{all_ones}
use Rattle.eyes_records.proofs.Laws.{inverted_last}
use Rattle.eyes_records.proofs.put_inverted.Goals as goal

pub returns : goal.returns
returns c =
    let a = c.args in
    let pre = c.requires in
    c.copy_into.ensures
    ∙ ap (laid a.out.now (a.end - 4))
    (c.split.ensures
    ∙ ap (λ (w : ℕ). octets_of (all_ones - w)) c.load-check.ensures
    ∙ inverted_last a.mframe.now (λ k. omega (arith, c.type_inv.mframe k)) (omega (arith, pre.0)))
