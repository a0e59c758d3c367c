-- One turn over the entries of a list: what its entry adds to the sum and to the events.
-- Assumes nothing.
use mathlib.Core.Path.{◌≡◌, refl, sym, ap, ap₂, ◌∙◌}
use mathlib.Core.Bool.{Bool, true, false, cond}
use mathlib.Core.List.{List, [], ◌∷◌, ◌++◌}
use Prim.Native.Nat.{ℕ, ◌+◌, ◌-◌, ◌*◌, ◌≤◌, ◌<◌}
use native.Mathlib.Omega.{arith}
use lib.Dec.{eqb}
use lib.ListN.{length, length-append}
use Rattle.rules.proofs.Tests.{tests}
use Rattle.octets.specs.Laid.{laid}
use Rattle.octets.proofs.Laid.{laid_laid}
use Rattle.gate_entries.specs.Entries.{size, operation, interval, entry_at}
use Rattle.gate_lists.specs.Lists.{entries_from}
use Rattle.gate_lists.proofs.Contents.{next}
use Rattle.gate_events.specs.Events.{Event, event, sum_of, event_at, events_from}

-- the event of an operation
pub none_at : (time o : ℕ) → o ≡ 0 → event_at time o ≡ []
unfolding event_at
none_at time o h = simp tests

pub one_at : (time o : ℕ) → (o ≡ 0 → ⊥) → event_at time o ≡ event time o ∷ []
unfolding event_at
one_at time o h = simp tests

-- it has as many at any time
pub as_many : (time o : ℕ) → length (event_at time o) ≡ length (event_at 0 o)
unfolding event_at
as_many time o = by (eqb o 0) where
  by : (t : Bool) → length (cond t [] (event time o ∷ [])) ≡ length (cond t [] (event 0 o ∷ []))
  by true = refl
  by false = refl

pub one_most : (time o : ℕ) → length (event_at time o) ≤ 1
unfolding event_at
one_most time o = by (eqb o 0) where
  by : (t : Bool) → length (cond t [] (event time o ∷ [])) ≤ 1
  by true = omega arith
  by false = omega arith

module _ (n : ℕ) (s : List ℕ) (i : ℕ) (h : i < n) where
  -- the entry of this turn; what is left is it and what is left behind it
  pub sum_on : sum_of (entries_from (n - i) s i) ≡ interval (entry_at s (i * size)) + sum_of (entries_from (n - (i + 1)) s (i + 1))
  unfolding sum_of
  sum_on = ap sum_of (next n s i h)

  pub events_on : (time : ℕ) → events_from time (entries_from (n - i) s i)
      ≡ event_at time (operation (entry_at s (i * size))) ++ events_from (time + interval (entry_at s (i * size))) (entries_from (n - (i + 1)) s (i + 1))
  unfolding events_from
  events_on time = ap (events_from time) (next n s i h)

  pub count_on : (time k t : ℕ) → k ≡ length (event_at time (operation (entry_at s (i * size)))) → t ≡ interval (entry_at s (i * size))
      → length (events_from time (entries_from (n - i) s i)) ≡ k + length (events_from (time + t) (entries_from (n - (i + 1)) s (i + 1)))
  count_on time k t ek et =
      let rest : ℕ → List Event = λ x. events_from (time + x) (entries_from (n - (i + 1)) s (i + 1)) in
      ap length (events_on time) ∙ length-append (event_at time (operation (entry_at s (i * size)))) (rest (interval (entry_at s (i * size))))
      ∙ ap₂ (λ (x y : ℕ). x + length (rest y)) (sym ek) (sym et)

  pub put_on : (xs : List Event) (j time o t : ℕ) {ys : List Event} {j' : ℕ} → ys ≡ laid xs j (event_at time o) → j' ≡ j + length (event_at time o)
      → o ≡ operation (entry_at s (i * size)) → t ≡ interval (entry_at s (i * size))
      → j + length (events_from time (entries_from (n - i) s i)) ≤ length xs
      → laid ys j' (events_from (time + t) (entries_from (n - (i + 1)) s (i + 1))) ≡ laid xs j (events_from time (entries_from (n - i) s i))
  put_on xs j time o t {ys} {j'} ey ej eo et room =
      let rest : ℕ → List Event = λ x. events_from (time + x) (entries_from (n - (i + 1)) s (i + 1)) in
      let on = count_on time (length (event_at time o)) t (ap (λ (x : ℕ). length (event_at time x)) eo) et in
      ap (λ (l : List Event). laid l j' (rest t)) ey ∙ laid_laid xs (event_at time o) (rest t) j j' ej (omega arith)
      ∙ ap (laid xs j) (ap₂ (λ (x y : ℕ). event_at time x ++ rest y) eo et ∙ sym (events_on time))

-- no entry is left
pub none_left : (n : ℕ) (s : List ℕ) (i : ℕ) → n ≤ i → entries_from (n - i) s i ≡ []
unfolding entries_from
none_left n s i h = ap (λ (k : ℕ). entries_from k s i) (let z : n - i ≡ 0 = omega arith in z)
