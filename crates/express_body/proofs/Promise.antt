-- The promise of `part_in`, from what is known at each return of the code.
-- Assumes nothing.
use mathlib.Core.Path.{◌≡◌, refl, sym, ap, ◌∙◌}
use mathlib.Core.Bool.{Bool, true, false, cond}
use mathlib.Core.List.{List, []}
use Prim.Native.Nat.{ℕ, ◌-◌}
use native.Mathlib.Omega.{arith}
use lib.Dec.{eqb}
use lib.ListN.{length, take, drop, length-drop}
use Rattle.std.specs.Prelude.{Result, Ok, Err}
use Rattle.endings.specs.Judge.{data_of}
use Rattle.endings.proofs.Endings.{data_length}
use Rattle.faults.specs.Faults.{fault_number, fault_detail}
use Rattle.heads.specs.Head.{Reading, refused, reading, head_of}
use Rattle.faults.specs.declared.Fault.{Fault}
use Rattle.heads.specs.declared.Head.{Head}
use Rattle.receiver_record.specs.Records.{fresh, in_range}
use Rattle.assembly.specs.Steps.{step_of}
use Rattle.receive.specs.Receive.{by_head, received_of, data_in}
use Rattle.receive.proofs.Known.{knows, part}
use Rattle.express_body.specs.Body.{express_delivered, begin_of, body_of, place_of, part_in}
use Rattle.express_body.specs.declared.Part.{Part}
use Rattle.express_body.proofs.Laws.{zero_delivers}

abbrev none : Part
none = record { start = 0; length = 0 }

-- the part by the head, and none of octets whose head is refused
abbrev part_by_lem : Bool → Reading → List ℕ → Part
part_by_lem b h m = record { start = cond b (begin_of h) 0; length = length (cond b (data_in h m) []) }

part_by : (m : List ℕ) → part_in m ≡ part_by_lem (eqb (by_head (head_of m) m fresh).said.number 0) (head_of m) m
unfolding body_of place_of received_of in_range
part_by m = refl

none_by : (number detail : ℕ) (m : List ℕ) (b : Bool) → part_by_lem b (refused number detail) m ≡ none
none_by number detail m true = refl
none_by number detail m false = refl

pub no_part : (m : List ℕ) {got : Result Head Fault} {fault : Fault} → reading got ≡ head_of m → got ≡ Err fault → none ≡ part_in m
no_part m {fault = fault} read e = sym (part_by m ∙ rw (← read, e) (none_by (fault_number fault) (fault_detail fault) m (eqb (fault_number fault) 0)))

module _ (m : List ℕ) {got : Result Head Fault} {head : Head} (read : reading got ≡ head_of m) (e : got ≡ Ok head) {flag : Bool}
    (tested : flag ≡ express_delivered head.kind (take (length m - head.place) (drop head.place m))) where
  zero_is : eqb (step_of head.kind (drop head.place m) fresh).said.number 0 ≡ flag
  zero_is = zero_delivers head.kind (drop head.place m) ∙ sym (tested ∙ ap (express_delivered head.kind) (part m read e))

  size : length m - 4 - head.place ≡ length (data_of (drop head.place m))
  size = omega (arith, data_length (drop head.place m), length-drop head.place m)

  pub body : flag ≡ true → record { start = head.place; length = length m - 4 - head.place } ≡ part_in m
  body q = ap (λ (n : ℕ). record { start = head.place; length = n }) size ∙ sym (part_by m ∙ rw (knows m read e, zero_is, q) refl)

  pub other : flag ≡ false → none ≡ part_in m
  other q = sym (part_by m ∙ rw (knows m read e, zero_is, q) refl)
