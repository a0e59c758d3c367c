-- A head told in the paper's numbers: what is told gives the head back, so no second one meets a promise of this crate.
-- Assumes nothing.
use mathlib.Core.Path.{◌≡◌, refl, sym, ap, ◌∙◌}
use mathlib.Core.Bool.{Bool}
use mathlib.Core.List.{List}
use Prim.Native.Nat.{ℕ}
use Rattle.std.specs.Prelude.{Result, Ok, Err}
use Rattle.faults.proofs.Once.{fault_of, fault_back}
use Rattle.heads.specs.Head.{Reading, reading, head_of, is_known}
use Rattle.heads.specs.Head as H
use Rattle.faults.specs.declared.Fault.{Fault}
use Rattle.heads.specs.declared.Head.{Head}

-- a head or its refusal, from what it is told as
unread : Reading → Result Head Fault
unread (H.known kind place) = Ok (record { kind = kind; place = place })
unread (H.refused k bits) = Err (fault_of k bits)

again : (h : Result Head Fault) → unread (reading h) ≡ h
unfolding unread
again (Ok head) = refl
again (Err fault) = ap (λ (f : Fault). Err f) (fault_back fault)

-- head_of: no second head
pub head_of_once : (m : List ℕ) {x y : Result Head Fault} → reading x ≡ head_of m → reading y ≡ head_of m → x ≡ y
head_of_once m {x} {y} p q = sym (again x) ∙ ap unread (p ∙ sym q) ∙ again y

-- is_known: no second answer
pub is_known_once : (m : List ℕ) {x y : Bool} → x ≡ is_known (head_of m) → y ≡ is_known (head_of m) → x ≡ y
is_known_once m p q = p ∙ sym q
