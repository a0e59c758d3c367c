-- `receive::take` meets its contract.
use native.Mathlib.Omega.{arith}
use Rattle.receive.proofs.Promise.{room}
use Rattle.receive.proofs.take.Goals as goal

pub keep-requires : goal.keep-requires
keep-requires c =
    let a = c.args in
    let w =
    room a.kind a.octets.now a.«record» c.decide-got.result c.decide-got.ensures c.keeps.ensures c.detail.ensures c.if-keeps.true (omega arith) in
    (omega arith, (omega arith, omega arith))
