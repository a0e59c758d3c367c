-- `hold_lines::word_line` meets its contract.
use Rattle.rules.proofs.Tests.{tests}
use Rattle.hold_lines.specs.HoldLines.{word_line}
use Rattle.hold_lines.proofs.word_line.Goals as goal

pub returns-then-operation-eq-HOLD : goal.returns-then-operation-eq-HOLD
unfolding word_line
returns-then-operation-eq-HOLD c =
    let t = c.if-operation-eq-HOLD.true in
    simp tests c.words.ensures

pub returns-else-operation-eq-HOLD : goal.returns-else-operation-eq-HOLD
unfolding word_line
returns-else-operation-eq-HOLD c =
    let t = c.if-operation-eq-HOLD.false in
    simp tests c.words-else-operation-eq-HOLD.ensures
