-- `express_body::express_body` meets its contract.
use mathlib.Core.Path.{refl, ap}
use native.Mathlib.Omega.{arith}
use Rattle.express_body.specs.declared.Part.{Part}
use Rattle.express_body.proofs.Lies.{part_lies}
use Rattle.express_body.proofs.express_body.Goals as goal

pub overflow_add-end : goal.overflow_add-end
overflow_add-end c =
    let w = part_lies _ c.part_in-part.ensures in
    omega (arith, w.most)

pub slice_bounds-result-end : goal.slice_bounds-result-end
slice_bounds-result-end c =
    let w = part_lies _ c.part_in-part.ensures in
    omega (arith, w.within)

pub returns : goal.returns
returns c =
    let e = c.part_in-part.ensures in
    record { octets = (part_lies _ e).same; block = refl; offset = omega (arith, ap (λ (p : Part). p.start) e) }
