-- No second answer meets a promise of this crate.
-- Assumes nothing.
use mathlib.Core.Path.{◌≡◌, refl, sym, ap, ◌∙◌}
use mathlib.Core.Bool.{Bool, cond}
use mathlib.Core.List.{List}
use Prim.Native.Nat.{ℕ}
use lib.Dec.{eqb}
use Rattle.gate_entries.specs.Entries.{Entry, entry_octets, entry_at, fault_at, fitting, refusal_number, judged}
use Rattle.std.specs.Prelude.{Result, Ok, Err}
use Rattle.gate_entries.specs.declared.Refusal.{Refusal}
use Rattle.gate_entries.specs.declared.Refusal.TheVariants.{Cut, Operation, Length, Many}

-- a number gives the refusal back
abbrev pub refusal_of : ℕ → Refusal
refusal_of q = cond (eqb q 60) Cut (cond (eqb q 61) Operation (cond (eqb q 62) Length Many))

pub refusal_back : (q : Refusal) → refusal_of (refusal_number q) ≡ q
refusal_back Cut = refl
refusal_back Operation = refl
refusal_back Length = refl
refusal_back Many = refl

abbrev unjudged : ℕ → Result (Unit {0}) Refusal
unjudged q = cond (eqb q 0) (Ok tt) (Err (refusal_of q))

back : (j : Result (Unit {0}) Refusal) → unjudged (judged j) ≡ j
back (Ok _) = refl
back (Err Cut) = refl
back (Err Operation) = refl
back (Err Length) = refl
back (Err Many) = refl

-- Refusal::number
pub number_once : (q : Refusal) {x y : ℕ} → x ≡ refusal_number q → y ≡ refusal_number q → x ≡ y
number_once q p s = p ∙ sym s

-- judge
pub judge_once : (s : List ℕ) (at : ℕ) {x y : Result (Unit {0}) Refusal} → judged x ≡ fault_at s at → judged y ≡ fault_at s at → x ≡ y
judge_once s at {x} {y} p q = sym (back x) ∙ ap unjudged (p ∙ sym q) ∙ back y

-- entry_at
pub entry_at_once : (s : List ℕ) (at : ℕ) {x y : Entry} → x ≡ entry_at s at → y ≡ entry_at s at → x ≡ y
entry_at_once s at p q = p ∙ sym q

-- fits
pub fits_once : (e : Entry) {x y : Bool} → x ≡ fitting e → y ≡ fitting e → x ≡ y
fits_once e p q = p ∙ sym q

-- octets_of
pub octets_of_once : (e : Entry) {x y : List ℕ} → x ≡ entry_octets e → y ≡ entry_octets e → x ≡ y
octets_of_once e p q = p ∙ sym q
