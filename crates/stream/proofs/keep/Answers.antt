-- `stream::keep` meets its contract.
use mathlib.Core.Path.{◌∙◌}
use native.Mathlib.Omega.{arith}
use Rattle.octets.proofs.Laid.{set_one}
use Rattle.rules.proofs.Tests.{tests}
use Rattle.stream.proofs.keep.Goals as goal

pub returns-then-state-lt-MOST : goal.returns-then-state-lt-MOST
returns-then-state-lt-MOST c =
    let a = c.args in
    let t0 = c.if-state-lt-MOST.true in
    (simp tests, set_one a.area.now a.state.count a.octet (omega arith) ∙ simp tests)
