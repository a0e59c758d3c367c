-- When an entry at a place is refused, and for what; when it passes, and what is then known of it; what is known of words that fit.
-- Assumes nothing.
use mathlib.Core.Path.{◌≡◌, refl}
use mathlib.Core.Bool.{Bool, true, false, cond, not}
use mathlib.Core.List.{List}
use Prim.Native.Nat.{ℕ, ◌+◌, ◌≤◌, ◌<◌}
use native.Mathlib.Omega.{arith}
use borrow.Author.Tests.{eqb-true, leb-true, ltb-false}
use lib.Dec.{ltb, leb, eqb}
use lib.ListN.{length, get_or}
use Rattle.rules.proofs.Tests.{tests, both}
use Rattle.gate_entries.specs.Entries.{greatest, five, size, Entry, operation, gates, entry_octets, left, fault_at, fitting, refusal_number}
use Rattle.gate_entries.specs.declared.Refusal.{Refusal}
use Rattle.gate_entries.specs.declared.Refusal.TheVariants.{Cut, Operation, Length, Many}

-- no refusal has the number of an entry that passes
pub some_number : (q : Refusal) → refusal_number q ≡ 0 → ⊥
some_number Cut e = omega arith
some_number Operation e = omega arith
some_number Length e = omega arith
some_number Many e = omega arith

-- words that fit
pub fitting_known : (e : Entry) → fitting e ≡ true → (operation e ≤ greatest) × (gates e ≤ 255)
fitting_known e t =
    let b = both (leb (operation e) greatest) (leb (gates e) 255) t in
    (leb-true (operation e) greatest b.0, leb-true (gates e) 255 b.1)

-- an entry's octets are seven
pub seven : (e : Entry) → length (entry_octets e) ≡ size
unfolding entry_octets
seven e = refl

-- the tests that an entry passed
zero_only : (a b d e : Bool) → ◌≡◌ {A = ℕ} (cond a 60 (cond b 60 (cond d 61 (cond (not e) 62 0)))) 0
    → (a ≡ false) × (b ≡ false) × (d ≡ false) × (e ≡ true)
zero_only true b d e z = absurd (let y : ⊥ = omega arith in y)
zero_only false true d e z = absurd (let y : ⊥ = omega arith in y)
zero_only false false true e z = absurd (let y : ⊥ = omega arith in y)
zero_only false false false false z = absurd (let y : ⊥ = omega arith in y)
zero_only false false false true z = (refl, refl, refl, refl)

-- what is known of an entry that passes
pub record Passed (s : List ℕ) (at : ℕ) : Type 0 where
  pub room : at + size ≤ length s
  pub known : get_or s at 0 ≤ greatest
  pub fifth : get_or s (at + 1) 0 ≡ five

module _ (s : List ℕ) (at : ℕ) where
  pub header_cut : left s at < 2 → fault_at s at ≡ 60
  unfolding fault_at
  header_cut h = simp tests

  pub value_cut : 2 ≤ left s at → left s (at + 2) < get_or s (at + 1) 0 → fault_at s at ≡ 60
  unfolding fault_at
  value_cut h v = simp tests

  pub operation_over : 2 ≤ left s at → get_or s (at + 1) 0 ≤ left s (at + 2) → greatest < get_or s at 0 → fault_at s at ≡ 61
  unfolding fault_at
  operation_over h v o = simp tests

  pub length_other : 2 ≤ left s at → get_or s (at + 1) 0 ≤ left s (at + 2) → get_or s at 0 ≤ greatest → (get_or s (at + 1) 0 ≡ five → ⊥) → fault_at s at ≡ 62
  unfolding fault_at
  length_other h v o n = simp tests

  pub passes : 2 ≤ left s at → get_or s (at + 1) 0 ≤ left s (at + 2) → get_or s at 0 ≤ greatest → get_or s (at + 1) 0 ≡ five → fault_at s at ≡ 0
  unfolding fault_at
  passes h v o n = simp tests

  pub passed : fault_at s at ≡ 0 → Passed s at
  unfolding fault_at
  passed z =
      let t = zero_only (ltb (left s at) 2) (ltb (left s (at + 2)) (get_or s (at + 1) 0)) (ltb greatest (get_or s at 0)) (eqb (get_or s (at + 1) 0) five) z in
      let header : 2 ≤ left s at = ltb-false _ _ t.0 in
      let value : get_or s (at + 1) 0 ≤ left s (at + 2) = ltb-false _ _ t.1 in
      let fifth : get_or s (at + 1) 0 ≡ five = eqb-true _ _ t.3 in
      let known : get_or s at 0 ≤ greatest = ltb-false _ _ t.2 in
      record { room = omega arith; known = known; fifth = fifth }

-- all of them, for whoever judges an entry
pub ruleset judging = (header_cut, value_cut, operation_over, length_other, passes)
