-- Why the octets kept, and whether there were more, suffice: what the first receiver does with any octets depends on nothing else of them.
-- Assumes nothing.
use mathlib.Core.Path.{◌≡◌, refl, sym, ap, ◌∙◌}
use mathlib.Core.Bool.{Bool, true, false, not, cond}
use mathlib.Core.List.{List}
use Prim.Native.Nat.{ℕ, ◌≤◌}
use borrow.Author.Tests.{ltb-true, ltb-false}
use lib.Dec.{ltb}
use lib.ListN.{length, take}
use lib.Seq.{take_all}
use Rattle.heads.specs.Head.{refused, head_of}
use Rattle.head_laws.specs.Beyond.{beyond}
use Rattle.head_laws.proofs.Beyond.{head_beyond, beyond_refused}
use Rattle.receiver_record.specs.declared.Record.{Record}
use Rattle.receiver_record.specs.Records.{in_range}
use Rattle.receiver_answers.specs.Answers.{says}
use Rattle.outcomes.specs.Outcomes.{Step, unchanged}
use Rattle.receive.specs.Receive.{by_head, received_of, left_of, data_in, buffer_of}
use Rattle.stream.specs.Stream.{most, long_of}

-- octets whose head is refused as too long: the answer is 10, 11 or 13, and nothing changes
module _ (m : List ℕ) (long : head_of m ≡ refused 13 0) where
  -- a step, by the tests for 10 and 11
  step_by : Bool → Bool → Record → Step
  step_by short good r = cond short (unchanged (says 10 0) r) (cond (not good) (unchanged (says 11 0) r) (by_head (head_of m) m r))

  pub long_received : (r : Record) (room : ℕ) → received_of m r room ≡ record { said = long_of r room; after = r }
  unfolding received_of step_by
  long_received r room = go (ltb room 1518) (in_range r)
    where
      go : (short good : Bool)
          → step_by short good r ≡ record { said = cond short (says 10 0) (cond good (says 13 0) (says 11 0)); after = r }
      go true good = refl
      go false true = simp long
      go false false = refl

  pub long_buffer : (r : Record) (b : List ℕ) → buffer_of m r b ≡ b
  unfolding buffer_of
  long_buffer r b = ap (λ (s : Step). left_of s.said (data_in (head_of m) m) b) (long_received r (length b)) ∙ go (ltb (length b) 1518) (in_range r)
    where
      go : (short good : Bool) → left_of (cond short (says 10 0) (cond good (says 13 0) (says 11 0))) (data_in (head_of m) m) b ≡ b
      go true good = refl
      go false true = refl
      go false false = refl

-- octets whose heads are refused alike: the first receiver does the same with them
module _ (m m' : List ℕ) {number detail : ℕ} (one : head_of m ≡ refused number detail) (other : head_of m' ≡ refused number detail) where
  pub alike_received : (r : Record) (room : ℕ) → received_of m r room ≡ received_of m' r room
  unfolding received_of
  alike_received r room = rw (one, other)

  pub alike_buffer : (r : Record) (b : List ℕ) → buffer_of m r b ≡ buffer_of m' r b
  unfolding buffer_of
  alike_buffer r b = rw (alike_received r (length b), one, other)

-- two runs of octets with the same first 1,531, of which both have more or neither: the first receiver does the same with them
module _ (m m' : List ℕ) (same : take most m ≡ take most m') (more : ltb most (length m) ≡ ltb most (length m')) where
  whole : length m ≤ most → length m' ≤ most → m ≡ m'
  whole h h' = sym (take_all most m h) ∙ same ∙ take_all most m' h'

  -- the head of those with more
  module _ (e : ltb most (length m) ≡ true) where
    abbrev number : ℕ
    number = (beyond_refused (head_of (take most m))).0

    abbrev detail : ℕ
    detail = (beyond_refused (head_of (take most m))).1.0

    by-kept : beyond (head_of (take most m)) ≡ refused number detail
    by-kept = (beyond_refused (head_of (take most m))).1.1

    one : head_of m ≡ refused number detail
    one = head_beyond m (ltb-true _ _ e) ∙ by-kept

    other : head_of m' ≡ refused number detail
    other = head_beyond m' (ltb-true _ _ (sym more ∙ e)) ∙ ap (λ (l : List ℕ). beyond (head_of l)) (sym same) ∙ by-kept

  pub suffice_received : (r : Record) (room : ℕ) → received_of m r room ≡ received_of m' r room
  suffice_received r room = go (ltb most (length m)) refl
    where
      go : (b : Bool) → ltb most (length m) ≡ b → received_of m r room ≡ received_of m' r room
      go true e = alike_received m m' (one e) (other e) r room
      go false e = ap (λ (l : List ℕ). received_of l r room) (whole (ltb-false _ _ e) (ltb-false _ _ (sym more ∙ e)))

  pub suffice_buffer : (r : Record) (b : List ℕ) → buffer_of m r b ≡ buffer_of m' r b
  suffice_buffer r b = go (ltb most (length m)) refl
    where
      go : (x : Bool) → ltb most (length m) ≡ x → buffer_of m r b ≡ buffer_of m' r b
      go true e = alike_buffer m m' (one e) (other e) r b
      go false e = ap (λ (l : List ℕ). buffer_of l r b) (whole (ltb-false _ _ e) (ltb-false _ _ (sym more ∙ e)))
