-- Reading on from a place, step by step, whatever is read there: a record and what stands behind it, or nothing more.
-- Assumes nothing.
use mathlib.Core.Path.{◌≡◌, refl, sym, ap, ◌∙◌}
use mathlib.Core.List.{List, [], ◌∷◌}
use Prim.Native.Nat.{ℕ, zero, suc, ◌+◌, ◌-◌, ◌≤◌, ◌<◌}
use native.Mathlib.Omega.{arith}
use lib.ListN.{length, take, drop}
use Rattle.rules.proofs.Tests.{never}
use Rattle.trace.specs.Trace.{Said, found, ended, refused}
use Rattle.trace_layout.specs.Layout.{Reading, Headed, Listing, onward, list_from, rest_from}

pub reading_of : {read : ℕ → Said} {s : List ℕ} → Headed read s → Reading read s
reading_of h = record { ends = h.ends; grows = h.grows }

module _ (read : ℕ → Said) (s : List ℕ) (w : Reading read s) where
  -- where nothing is left, any number of records may be allowed
  none_left : (m at : ℕ) → length s ≤ at → list_from read s m at ≡ record { contents = []; stop = ended }
  unfolding list_from
  none_left zero at h = ap (λ (t : Said). record { contents = []; stop = t }) (w.ends at h)
  none_left (suc m) at h = ap (onward s (list_from read s m)) (w.ends at h)

  same_onward : (f g : ℕ → Listing) (at : ℕ) → ((next : ℕ) → at < next → f next ≡ g next) → (t : Said) → read at ≡ t → onward s f t ≡ onward s g t
  same_onward f g at h (found place n next) e =
      ap (λ (l : Listing). record { contents = take n (drop place s) ∷ l.contents; stop = l.stop }) (h next (w.grows at place n next e))
  same_onward f g at h ended e = refl
  same_onward f g at h (refused k) e = refl

  -- no more records are allowed than there can be: it does not matter how many
  enough : (m n at : ℕ) → length s ≤ at + m → length s ≤ at + n → list_from read s m at ≡ list_from read s n at
  unfolding list_from
  enough zero n at h k = none_left zero at (omega arith) ∙ sym (none_left n at (omega arith))
  enough (suc m) zero at h k = none_left (suc m) at (omega arith) ∙ sym (none_left zero at (omega arith))
  enough (suc m) (suc n) at h k =
      same_onward (list_from read s m) (list_from read s n) at (λ next b. enough m n next (omega arith) (omega arith)) (read at) refl

  step : (at : ℕ) → rest_from read s at ≡ onward s (rest_from read s) (read at)
  unfolding list_from
  step at =
      enough (length s - at) (suc (length s)) at (omega arith) (omega arith)
      ∙ same_onward (list_from read s (length s)) (rest_from read s) at (λ next b. enough (length s) (length s - next) next (omega arith) (omega arith)) (read at) refl

  -- what stands at the place decides
  pub rest_found : (at place n next : ℕ) → read at ≡ found place n next
      → rest_from read s at ≡ record { contents = take n (drop place s) ∷ (rest_from read s next).contents; stop = (rest_from read s next).stop }
  rest_found at place n next e = step at ∙ ap (onward s (rest_from read s)) e

  pub rest_ended : (at : ℕ) → read at ≡ ended → rest_from read s at ≡ record { contents = []; stop = ended }
  rest_ended at e = step at ∙ ap (onward s (rest_from read s)) e

  pub rest_refused : (at q : ℕ) → read at ≡ refused q → rest_from read s at ≡ record { contents = []; stop = refused q }
  rest_refused at q e = step at ∙ ap (onward s (rest_from read s)) e

  -- what holds where nothing more is found, and before a record if it holds behind it, holds everywhere
  module _ (P : ℕ → Type 0) (f : (at place n next : ℕ) → read at ≡ found place n next → P next → P at)
      (e : (at : ℕ) → read at ≡ ended → P at) (r : (at q : ℕ) → read at ≡ refused q → P at) where
    by_said : (at : ℕ) → ((next : ℕ) → at < next → P next) → (t : Said) → read at ≡ t → P at
    by_said at g (found place n next) h = f at place n next h (g next (w.grows at place n next h))
    by_said at g ended h = e at h
    by_said at g (refused q) h = r at q h

    within : (m at : ℕ) → length s ≤ at + m → P at
    within zero at h = e at (w.ends at (omega arith))
    within (suc m) at h = by_said at (λ next b. within m next (omega arith)) (read at) refl

    pub everywhere : (at : ℕ) → P at
    everywhere at = within (length s) at (omega arith)

  -- reading stops at the end or at a refusal
  pub rest_stops : (at place n next : ℕ) → (rest_from read s at).stop ≡ found place n next → ⊥
  rest_stops =
      everywhere (λ (at : ℕ). (place n next : ℕ) → (rest_from read s at).stop ≡ found place n next → ⊥)
      (λ at place n next e h a b d z. h a b d (sym (ap (λ (l : Listing). l.stop) (rest_found at place n next e)) ∙ z))
      (λ at e a b d z. let x : ended ≡ found a b d = sym (ap (λ (l : Listing). l.stop) (rest_ended at e)) ∙ z in never (cc))
      (λ at q e a b d z. let x : refused q ≡ found a b d = sym (ap (λ (l : Listing). l.stop) (rest_refused at q e)) ∙ z in never (cc))
