-- Every event keeps the ranges of a record.
-- Assumes nothing.
use mathlib.Core.Path.{◌≡◌, refl}
use mathlib.Core.Bool.{true, false}
use Prim.Native.Nat.{ℕ, ◌+◌, ◌-◌, ◌≤◌, ◌<◌}
use native.Mathlib.Decide.{dec_lt}
use native.Mathlib.Omega.{arith}
use borrow.Author.Tests.{leb-true, le-leb}
use Rattle.rules.proofs.Tests.{both, by_test}
use Rattle.verify_record.specs.Ranges.{attempts, is_wait, is_off, is_trying, counted, in_range}
use Rattle.verify_record.proofs.Laws.{wait_known}
use Rattle.verify_record.specs.declared.Phase.{Phase}
use Rattle.verify_record.specs.declared.Phase.TheVariants.{Off, Verified, Failed}
use Rattle.verify_record.specs.declared.Record.{Record}
use Rattle.verify_answers.specs.Answers.{Told, takes}
use Rattle.verify_trying.specs.Trying.{rests, tries, begun, one_less}
use Rattle.verify_trying.proofs.Laws.{waits, tries_again, gives_up}
use Rattle.verify.specs.Verify.{effect, step_of}
use Rattle.verify.specs.declared.Event.{Event}
use Rattle.verify.specs.declared.Event.TheVariants.{Enable, Disable, LinkFailed, ResponseHeard, VerifyHeard, ResponseSent, Millisecond}
use Rattle.verify.proofs.Laws.{step_taken}

-- what holds in each case of a millisecond holds of it
pub by_tick : (P : Told → Type 0) (r : Record)
    → (1 < r.left → P (takes (tries r.attempt (r.left - 1) r) false))
    → (r.left ≤ 1 → r.attempt < attempts → P (takes (tries (r.attempt + 1) r.wait r) true))
    → (r.left ≤ 1 → attempts ≤ r.attempt → P (takes (rests Failed r) false))
    → P (one_less r)
by_tick P r f g h =
    elim (dec_lt 1 r.left) [
      | yes a ↦ rw (waits r a) (f a)
      | no a ↦ elim (dec_lt r.attempt attempts) [
        | yes b ↦ rw (tries_again r (omega arith) b) (g (omega arith) b)
        | no b ↦ rw (gives_up r (omega arith) (omega arith)) (h (omega arith) (omega arith))
      ]
    ]

-- the ranges in trying
pub record Running (r : Record) : Type 0 where
  pub first : 1 ≤ r.attempt
  pub last : r.attempt ≤ attempts
  pub some : 1 ≤ r.left
  pub most : r.left ≤ r.wait

counted_running : (r : Record) → counted 1 attempts r.wait r ≡ true → Running r
unfolding counted
counted_running r h =
    let a = both _ _ h in
    let b = both _ _ a.1 in
    let c = both _ _ b.1 in
    record { first = leb-true _ _ a.0; last = leb-true _ _ b.0; some = leb-true _ _ c.0; most = leb-true _ _ c.1 }

running_counted : (r : Record) → Running r → counted 1 attempts r.wait r ≡ true
unfolding counted
running_counted r c = simp (le-leb _ _ c.first, le-leb _ _ c.last, le-leb _ _ c.some, le-leb _ _ c.most)

pub running : (r : Record) → in_range r ≡ true → is_trying r.phase ≡ true → Running r
running r h t = counted_running r (rw t at (both (is_wait r.wait) _ h).1)

-- the wait is in its range in any phase
wait_in_range : (r : Record) → in_range r ≡ true → is_wait r.wait ≡ true
wait_in_range r h = (both (is_wait r.wait) _ h).0

-- a phase other than trying, and trying just begun, are in range
pub rest_in_range : (p : Phase) (r : Record) → is_trying p ≡ false → in_range r ≡ true → in_range (rests p r) ≡ true
unfolding counted
rest_in_range p r t h = simp (wait_in_range r h, t)

pub begun_in_range : (n : ℕ) (r : Record) → is_wait n ≡ true → in_range (begun n r) ≡ true
begun_in_range n r w = let b = wait_known n w in simp (w, running_counted (begun n r) (omega arith))

-- every event keeps the ranges
abbrev Ranged : Told → Type 0
Ranged t = in_range t.after ≡ true

pub in_range_kept : (r : Record) (e : Event) → in_range r ≡ true → Ranged (effect e r)
unfolding counted
in_range_kept r (Enable n) h =
    by_test Ranged (is_wait n) (λ w. by_test Ranged (is_off r.phase) (λ o. begun_in_range n r w) (λ o. h)) (λ w. h)
in_range_kept r Disable h = rest_in_range Off r refl h
in_range_kept r LinkFailed h = rest_in_range Off r refl h
in_range_kept r ResponseHeard h = by_test Ranged (is_trying r.phase) (λ t. rest_in_range Verified r refl h) (λ t. h)
in_range_kept r VerifyHeard h = h
in_range_kept r ResponseSent h = h
in_range_kept r Millisecond h =
    by_test Ranged (is_trying r.phase)
    (λ t. let c = running r h t in
    by_tick Ranged r
    (λ a. simp (wait_in_range r h, running_counted (tries r.attempt (r.left - 1) r) (omega arith)))
    (λ a b. simp (wait_in_range r h, running_counted (tries (r.attempt + 1) r.wait r) (omega arith)))
    (λ a b. rest_in_range Failed r refl h))
    (λ t. h)

pub step_in_range : (r : Record) (e : Event) → in_range r ≡ true → in_range (step_of r e).after ≡ true
step_in_range r e h = rw (step_taken r e h) (in_range_kept r e h)
