-- The events of a list are those of its entries, each at the sum of the intervals before its own; their times never fall, no sum overflows, and
-- there are 256 at most.
-- Assumes nothing.
use mathlib.Core.Path.{◌≡◌, refl, sym, ap, ◌∙◌, subst}
use mathlib.Core.Logic.{◌⊎◌, inl, inr}
use mathlib.Core.Bool.{Bool, true, false, cond}
use mathlib.Core.List.{List, [], ◌∷◌, ◌++◌, append_assoc}
use Prim.Native.Nat.{ℕ, zero, suc, ◌+◌, ◌*◌, ◌≤◌, ◌<◌, ◌^◌}
use native.Mathlib.Omega.{arith}
use borrow.Author.Tests.{eqb-false}
use lib.Dec.{eqb}
use lib.ListN.{length, get_or, take, drop}
use lib.Seq.{split_at}
use Rattle.fours.proofs.Words.{wide}
use Rattle.gate_entries.specs.Entries.{greatest, size, Entry, operation, interval, entry_at}
use Rattle.gate_entries.proofs.Laws.{passed}
use Rattle.gate_lists.specs.Lists.{most, good, of_octets}
use Rattle.gate_lists.proofs.Good.{octets_good}
use Rattle.gate_events.specs.Events.{Event, event, time_of, operation_of, sum_of, event_at, events_from}
use Rattle.gates.specs.Gates.{entries_of}
use Rattle.gates.proofs.Laws.{count_of}
use Rattle.schedule.specs.Typed.{Octets}
use Rattle.schedule.proofs.Roundtrip.{entry_of}

-- the events of entries, parted anywhere
events_append : (t : ℕ) (xs ys : List Entry) → events_from t (xs ++ ys) ≡ events_from t xs ++ events_from (t + sum_of xs) ys
unfolding events_from sum_of
events_append t [] ys = ap (λ (k : ℕ). events_from k ys) (let z : t ≡ t + 0 = omega arith in z)
events_append t (x ∷ xs) ys =
    ap (λ (l : List Event). event_at t (operation x) ++ l)
    (events_append (t + interval x) xs ys
    ∙ ap (λ (k : ℕ). events_from (t + interval x) xs ++ events_from k ys) (let z : t + interval x + sum_of xs ≡ t + (interval x + sum_of xs) = omega arith in z))
    ∙ sym (append_assoc (event_at t (operation x)) (events_from (t + interval x) xs) (events_from (t + (interval x + sum_of xs)) ys))

-- each entry has its event, where its operation has one, at the sum of all intervals before it: behind the events of the entries before, and
-- before those of the entries behind
pub event_of : (es : List Entry) (k : ℕ) → k < length es
    → events_from 0 es ≡ events_from 0 (take k es) ++ (event_at (sum_of (take k es)) (operation (get_or es k [])) ++ events_from (sum_of (take k es) + interval (get_or es k [])) (drop (suc k) es))
unfolding events_from
event_of es k h =
    ap (events_from 0) (split_at es k [] h) ∙ events_append 0 (take k es) (get_or es k [] ∷ drop (suc k) es)
    ∙ ap (λ (t : ℕ). events_from 0 (take k es) ++ events_from t (get_or es k [] ∷ drop (suc k) es)) (let z : 0 + sum_of (take k es) ≡ sum_of (take k es) = omega arith in z)

-- what holds of the first event and of those behind it holds of all; of an operation with none, it need only hold of those behind
module _ (P : Event → Type 0) where
  each_of : (b : Bool) (v : Event) (vs : List Event) → P v → ((j : ℕ) → j < length vs → P (get_or vs j []))
      → (j : ℕ) → j < length (cond b [] (v ∷ []) ++ vs) → P (get_or (cond b [] (v ∷ []) ++ vs) j [])
  each_of true v vs p q j h = q j h
  each_of false v vs p q zero h = p
  each_of false v vs p q (suc j) h = q j (omega arith)

-- no event is before the time that its entries begin at, nor behind the end of their cycle
pub not_before : (t : ℕ) (es : List Entry) (j : ℕ) → j < length (events_from t es) → t ≤ time_of (get_or (events_from t es) j [])
unfolding events_from event_at
not_before t [] j h = absurd (let z : ⊥ = omega arith in z)
not_before t (e ∷ es) j h =
    each_of (λ v. t ≤ time_of v) (eqb (operation e) 0) (event t (operation e)) (events_from (t + interval e) es) (omega arith)
    (λ i g. let r = not_before (t + interval e) es i g in omega arith) j h

pub not_behind : (t : ℕ) (es : List Entry) (j : ℕ) → j < length (events_from t es) → time_of (get_or (events_from t es) j []) ≤ t + sum_of es
unfolding events_from event_at sum_of
not_behind t [] j h = absurd (let z : ⊥ = omega arith in z)
not_behind t (e ∷ es) j h =
    each_of (λ v. time_of v ≤ t + (interval e + sum_of es)) (eqb (operation e) 0) (event t (operation e)) (events_from (t + interval e) es) (omega arith)
    (λ i g. let r = not_behind (t + interval e) es i g in omega arith) j h

-- each is a hold or a release
hold_or : (o : ℕ) → o ≤ greatest → (o ≡ 0 → ⊥) → (o ≡ 1) ⊎ (o ≡ 2)
hold_or zero h n = absurd (n refl)
hold_or (suc zero) h n = inl refl
hold_or (suc (suc zero)) h n = inr refl
hold_or (suc (suc (suc o))) h n = absurd (let z : ⊥ = omega arith in z)

kind_of : (b : Bool) (t o : ℕ) (vs : List Event) → eqb o 0 ≡ b → o ≤ greatest
    → ((j : ℕ) → j < length vs → (operation_of (get_or vs j []) ≡ 1) ⊎ (operation_of (get_or vs j []) ≡ 2))
    → (j : ℕ) → j < length (cond b [] (event t o ∷ []) ++ vs)
    → (operation_of (get_or (cond b [] (event t o ∷ []) ++ vs) j []) ≡ 1) ⊎ (operation_of (get_or (cond b [] (event t o ∷ []) ++ vs) j []) ≡ 2)
kind_of true t o vs e h q j l = q j l
kind_of false t o vs e h q zero l = hold_or o h (eqb-false o 0 e)
kind_of false t o vs e h q (suc j) l = q j (omega arith)

kinds : (t : ℕ) (es : List Entry) → ((k : ℕ) → k < length es → operation (get_or es k []) ≤ greatest) → (j : ℕ) → j < length (events_from t es)
    → (operation_of (get_or (events_from t es) j []) ≡ 1) ⊎ (operation_of (get_or (events_from t es) j []) ≡ 2)
unfolding events_from event_at
kinds t [] f j l = absurd (let z : ⊥ = omega arith in z)
kinds t (e ∷ es) f j l =
    kind_of (eqb (operation e) 0) t (operation e) (events_from (t + interval e) es) refl (f 0 (omega arith))
    (kinds (t + interval e) es (λ k h. f (suc k) (omega arith))) j l

pub hold_or_release : (s : List ℕ) (n : ℕ) → of_octets s ≡ good n → (j : ℕ) → j < length (events_from 0 (entries_of s))
    → (operation_of (get_or (events_from 0 (entries_of s)) j []) ≡ 1) ⊎ (operation_of (get_or (events_from 0 (entries_of s)) j []) ≡ 2)
unfolding entry_at
hold_or_release s n g j l =
    kinds 0 (entries_of s)
    (λ k h. subst (λ (e : Entry). operation e ≤ greatest) (sym (entry_of s n g k (let c = count_of s n g in omega arith)))
    (passed s (k * size) ((octets_good s n g).each k (let c = count_of s n g in omega arith))).known) j l

-- times never fall
rising_of : (b : Bool) (v : Event) (vs : List Event) → ((j : ℕ) → j < length vs → time_of v ≤ time_of (get_or vs j []))
    → ((i j : ℕ) → i ≤ j → j < length vs → time_of (get_or vs i []) ≤ time_of (get_or vs j []))
    → (i j : ℕ) → i ≤ j → j < length (cond b [] (v ∷ []) ++ vs) → time_of (get_or (cond b [] (v ∷ []) ++ vs) i []) ≤ time_of (get_or (cond b [] (v ∷ []) ++ vs) j [])
rising_of true v vs p q i j h l = q i j h l
rising_of false v vs p q zero zero h l = omega arith
rising_of false v vs p q zero (suc j) h l = p j (omega arith)
rising_of false v vs p q (suc i) zero h l = absurd (let z : ⊥ = omega arith in z)
rising_of false v vs p q (suc i) (suc j) h l = q i j (omega arith) (omega arith)

pub never_fall : (t : ℕ) (es : List Entry) (i j : ℕ) → i ≤ j → j < length (events_from t es)
    → time_of (get_or (events_from t es) i []) ≤ time_of (get_or (events_from t es) j [])
unfolding events_from event_at
never_fall t [] i j h l = absurd (let z : ⊥ = omega arith in z)
never_fall t (e ∷ es) i j h l =
    rising_of (eqb (operation e) 0) (event t (operation e)) (events_from (t + interval e) es)
    (λ k g. let r = not_before (t + interval e) es k g in omega arith) (λ a b. never_fall (t + interval e) es a b) i j h l

-- the sum of 256 intervals of 32 bits has 40
sum_bound : (es : List Entry) → ((k : ℕ) → k < length es → interval (get_or es k []) < 2 ^ 32) → sum_of es ≤ length es * 4294967295
unfolding sum_of
sum_bound [] f = omega arith
sum_bound (e ∷ es) f = let r = sum_bound es (λ k h. f (suc k) (omega arith)) in let i = f 0 (omega arith) in omega arith

interval_small : (s : List ℕ) → Octets s → (at : ℕ) → interval (entry_at s at) < 2 ^ 32
unfolding entry_at
interval_small s o at = wide (get_or s (at + 6) 0) (get_or s (at + 5) 0) (get_or s (at + 4) 0) (get_or s (at + 3) 0) (o (at + 6)) (o (at + 5)) (o (at + 4)) (o (at + 3))

pub no_overflow : (s : List ℕ) → Octets s → (n : ℕ) → of_octets s ≡ good n → sum_of (entries_of s) < 2 ^ 40
no_overflow s o n g =
    let b = (octets_good s n g).bound in
    let l = count_of s n g in
    let r = sum_bound (entries_of s)
    (λ k h. subst (λ (e : Entry). interval e < 2 ^ 32) (sym (entry_of s n g k (omega arith))) (interval_small s o (k * size))) in
    omega arith

-- room for 256 events is room for those of every list
few : (b : Bool) (v : Event) (vs : List Event) (n : ℕ) → length vs ≤ n → length (cond b [] (v ∷ []) ++ vs) ≤ suc n
few true v vs n h = omega arith
few false v vs n h = omega arith

events_few : (t : ℕ) (es : List Entry) → length (events_from t es) ≤ length es
unfolding events_from event_at
events_few t [] = omega arith
events_few t (e ∷ es) = few (eqb (operation e) 0) (event t (operation e)) (events_from (t + interval e) es) (length es) (events_few (t + interval e) es)

pub never_short : (s : List ℕ) (n : ℕ) → of_octets s ≡ good n → length (events_from 0 (entries_of s)) ≤ most
never_short s n g = let a = events_few 0 (entries_of s) in let c = count_of s n g in let b = (octets_good s n g).bound in omega arith
