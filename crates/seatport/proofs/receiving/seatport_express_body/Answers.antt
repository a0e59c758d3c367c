-- `seatport::receiving::seatport_express_body` meets its contract.
use mathlib.Core.Path.{ap}
use mathlib.Core.List.{[], ◌∷◌}
use native.Mathlib.Omega.{arith}
use Rattle.express_body.specs.declared.Part.{Part}
use Rattle.express_body.proofs.Lies.{part_lies}
use Rattle.seatport.proofs.receiving.seatport_express_body.Goals as goal

pub overflow_cast-start : goal.overflow_cast-start
overflow_cast-start c =
    let w = part_lies _ c.part_in-part.ensures in
    omega (arith, w.most)

pub overflow_cast-length : goal.overflow_cast-length
overflow_cast-length c =
    let w = part_lies _ c.part_in-part.ensures in
    omega (arith, w.most)

pub returns : goal.returns
returns c = ap (λ (p : Part). p.start ∷ p.length ∷ []) c.part_in-part.ensures
