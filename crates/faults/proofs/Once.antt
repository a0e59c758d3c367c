-- A refusal told in the paper's numbers: what is told gives it back, and no second number and no second detail meet a promise of this crate.
-- Assumes nothing.
use mathlib.Core.Path.{◌≡◌, refl, sym, ◌∙◌}
use mathlib.Core.Bool.{cond}
use Prim.Native.Nat.{ℕ}
use lib.Dec.{eqb}
use Rattle.faults.specs.Faults.{fault_number, fault_detail}
use Rattle.faults.specs.declared.Fault.{Fault}
use Rattle.faults.specs.declared.Fault.TheVariants.{Short, Long, Preamble, Delimiter, Fragment}

-- why a head is refused, from the number and the detail
unfoldable pub fault_of : ℕ → ℕ → Fault
fault_of k bits =
    cond (eqb k 12) Short (cond (eqb k 13) Long (cond (eqb k 14) Preamble (cond (eqb k 15) (Delimiter bits) Fragment)))

pub fault_back : (f : Fault) → fault_of (fault_number f) (fault_detail f) ≡ f
unfolding fault_of
fault_back Short = refl
fault_back Long = refl
fault_back Preamble = refl
fault_back (Delimiter bits) = refl
fault_back Fragment = refl

-- number and detail
pub fault_once : (f : Fault) {x y m n : ℕ} → x ≡ fault_number f → y ≡ fault_number f → m ≡ fault_detail f → n ≡ fault_detail f → (x ≡ y) × (m ≡ n)
fault_once f p q s t = (p ∙ sym q, s ∙ sym t)
