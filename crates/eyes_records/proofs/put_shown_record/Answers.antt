-- `eyes_records::put_shown_record` meets its contract.
use mathlib.Core.Path.{ap, ◌∙◌}
use native.Mathlib.Omega.{arith}
use lib.ListN.{length}
use Rattle.outcomes.specs.Outcomes.{Step}
use Rattle.eyes_records.proofs.Promise.{has_four, as_it_is, with_its_end}
use Rattle.eyes_records.proofs.put_shown_record.Goals as goal
use Rattle.eyes_records.proofs.put_shown_record.Goals.{then-has_mcrc, else-has_mcrc}

pub put_inverted-requires : goal.put_inverted-requires
put_inverted-requires c =
    let a = c.args in
    let pre = c.requires in
    let four = has_four a.mframe.now a.«record» (length a.buffer.now) c.receive-got.result c.receive-got.ensures.step c.has_mcrc.ensures c.if-has_mcrc.true in
    (four, (omega (arith, four), omega (arith, pre.1)))

pub returns : goal.returns
returns c =
    let a = c.args in
    let got = c.receive-got.ensures in
    record {
      after_is = ap (λ (t : Step). t.after) got.step;
      buffer = got.octets;
      octets = elim c.if-has_mcrc.branch [
        | then-has_mcrc w ↦ w.out-is ∙ w.put_inverted.ensures
            ∙ with_its_end a.mframe.now a.«record» (length a.buffer.now) c.receive-got.result got.step c.has_mcrc.ensures a.out.now a.at c.requires.1
            c.put_capture_record.ensures w.if-has_mcrc.true
        | else-has_mcrc w ↦ w.out-is
            ∙ as_it_is a.mframe.now a.«record» (length a.buffer.now) c.receive-got.result got.step c.has_mcrc.ensures a.out.now a.at c.requires.1
            c.put_capture_record.ensures w.if-has_mcrc.false
      ];
    }
