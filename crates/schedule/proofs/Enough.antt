-- What stands behind the first 2,049 octets of a list changes nothing: 256 entries of seven, then a header and a value of 255. So whoever reads
-- lists of any length needs no more memory than that.
-- Assumes nothing.
use mathlib.Core.Path.{◌≡◌, refl, sym, ap, ap₂, ◌∙◌}
use mathlib.Core.Bool.{Bool, true, false, cond, not}
use mathlib.Core.List.{List}
use Prim.Native.Nat.{ℕ, zero, suc, ◌+◌, ◌*◌, ◌≤◌, ◌<◌}
use native.Mathlib.Omega.{arith}
use borrow.Author.Tests.{leb-true, leb-false}
use lib.Dec.{leb, ltb, eqb}
use lib.ListN.{length, get_or, take, get_or-eq_default}
use lib.Seq.{take_all, length-take-le, get_or-take}
use Rattle.rules.proofs.Tests.{tests}
use Rattle.gate_entries.specs.Entries.{greatest, five, size, Entry, left, fault_at}
use Rattle.gate_lists.specs.Lists.{most, Said, good, refused, short, walk, octets_end, octets_fault, of_octets}
use Rattle.gate_lists.proofs.Laws.{octets_going}
use Rattle.gate_lists.proofs.Good.{octets_good}
use Rattle.gate_events.specs.Events.{sum_of, events_from}
use Rattle.gates.specs.Gates.{outcome, entries_in, entries_of, read_of, events_of, cycle_of}
use Rattle.schedule.specs.Typed.{Octets}
use Rattle.schedule.specs.Window.{enough_octets}

-- two walks that meet the same entries say the same
same_walk : (e f : ℕ → Bool) (p q : ℕ → ℕ) (m k : ℕ) → ((j : ℕ) → j ≤ k + m → e j ≡ f j) → ((j : ℕ) → j ≤ k + m → p j ≡ q j)
    → walk e p m k ≡ walk f q m k
unfolding walk
same_walk e f p q zero k h g =
    ap₂ (λ (a : Bool) (x : ℕ). cond a (good k) (cond (eqb x 0) (refused 63 (suc k)) (refused x (suc k)))) (h k (omega arith)) (g k (omega arith))
same_walk e f p q (suc m) k h g =
    let step : Said → Bool → ℕ → Said = λ r a x. cond a (good k) (cond (eqb x 0) r (refused x (suc k))) in
    ap₂ (step (walk e p m (suc k))) (h k (omega arith)) (g k (omega arith))
    ∙ ap (λ (r : Said). step r (f k) (q k)) (same_walk e f p q m (suc k) (λ j i. h j (omega arith)) (λ j i. g j (omega arith)))

-- an entry that is not cut
uncut : (s : List ℕ) → Octets s → (at : ℕ) → at + 257 ≤ length s
    → fault_at s at ≡ cond (ltb greatest (get_or s at 0)) 61 (cond (not (eqb (get_or s (at + 1) 0) five)) 62 0)
unfolding fault_at
uncut s o at h =
    let n = o (at + 1) in
    let header : 2 ≤ left s at = omega arith in
    let value : get_or s (at + 1) 0 ≤ left s (at + 2) = omega arith in
    simp tests

-- a longer list, of which only the first n octets are read
module _ (s : List ℕ) (o : Octets s) (n : ℕ) (m : enough_octets ≤ n) (h : n < length s) where
  front_length : length (take n s) ≡ n
  front_length = length-take-le n s (omega arith)

  front_octets : Octets (take n s)
  front_octets k = by (leb n k) refl where
    by : (t : Bool) → leb n k ≡ t → get_or (take n s) k 0 < 256
    by true e =
        let b = leb-true n k e in
        let z : get_or (take n s) k 0 ≡ 0 = get_or-eq_default (take n s) 0 (let l = front_length in let g : length (take n s) ≤ k = omega arith in g) in
        omega arith
    by false e = let z = get_or-take n s k 0 (leb-false n k e) in let b = o k in omega arith

  same_fault : (k : ℕ) → k ≤ most → octets_fault (take n s) k ≡ octets_fault s k
  same_fault k b =
      let l = front_length in
      let at : ℕ = k * size in
      let z : at ≤ 1792 = omega arith in
      uncut (take n s) front_octets at (omega arith)
      ∙ ap₂ (λ (x y : ℕ). cond (ltb greatest x) 61 (cond (not (eqb y five)) 62 0)) (get_or-take n s at 0 (omega arith)) (get_or-take n s (at + 1) 0 (omega arith))
      ∙ sym (uncut s o at (omega arith))

  same_end : (k : ℕ) → k ≤ most → octets_end (take n s) k ≡ octets_end s k
  same_end k b =
      let l = front_length in
      octets_going (take n s) k (omega arith) ∙ sym (octets_going s k (omega arith))

  front_enough : of_octets (take n s) ≡ of_octets s
  front_enough = same_walk (octets_end (take n s)) (octets_end s) (octets_fault (take n s)) (octets_fault s) most 0 (λ j i. same_end j (omega arith)) (λ j i. same_fault j (omega arith))

pub enough : (s : List ℕ) → Octets s → (n : ℕ) → enough_octets ≤ n → of_octets (take n s) ≡ of_octets s
enough s o n m = by (leb (length s) n) refl where
  by : (t : Bool) → leb (length s) n ≡ t → of_octets (take n s) ≡ of_octets s
  by true e = ap of_octets (take_all n s (leb-true (length s) n e))
  by false e = front_enough s o n m (leb-false (length s) n e)

-- so its entries are the same, and with them all that is read and listed of it
none_in : (a : Said) (s t : List ℕ) → ((k : ℕ) → a ≡ good k → ⊥) → entries_in a s ≡ entries_in a t
none_in (good k) s t h = absurd (h k refl)
none_in (refused q k) s t h = refl
none_in (short k) s t h = refl

enough_entries : (s : List ℕ) → Octets s → (n : ℕ) → enough_octets ≤ n → entries_of (take n s) ≡ entries_of s
enough_entries s o n m = by (leb (length s) n) refl where
  by : (t : Bool) → leb (length s) n ≡ t → entries_of (take n s) ≡ entries_of s
  by true e = ap entries_of (take_all n s (leb-true (length s) n e))
  by false e =
      ap (λ (a : Said). entries_in a (take n s)) (enough s o n m)
      ∙ none_in (of_octets s) (take n s) s
      (λ k g. let b = (octets_good s k g).bound in let x = (octets_good s k g).exact in let l = leb-false (length s) n e in let z : ⊥ = omega arith in z)

pub enough_read : (s : List ℕ) → Octets s → (n : ℕ) → enough_octets ≤ n → (room : ℕ) → read_of (take n s) room ≡ read_of s room
enough_read s o n m room = ap₂ (λ (a : Said) (es : List Entry). outcome a es room) (enough s o n m) (enough_entries s o n m)

pub enough_listed : (s : List ℕ) → Octets s → (n : ℕ) → enough_octets ≤ n → (room : ℕ) → events_of (take n s) room ≡ events_of s room
enough_listed s o n m room =
    ap₂ (λ (a : Said) (es : List Entry). outcome a (events_from 0 es) room) (enough s o n m) (enough_entries s o n m)

pub enough_cycle : (s : List ℕ) → Octets s → (n : ℕ) → enough_octets ≤ n → (a : Said) → cycle_of a (take n s) ≡ cycle_of a s
enough_cycle s o n m (good k) = ap sum_of (enough_entries s o n m)
enough_cycle s o n m (refused q k) = refl
enough_cycle s o n m (short k) = refl
