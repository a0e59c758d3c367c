-- Walking a list entry by entry, from behind the k entries that passed.
-- Assumes nothing.
use mathlib.Core.Path.{◌≡◌, refl, sym, ap, ◌∙◌}
use mathlib.Core.Bool.{Bool, true, false, cond}
use mathlib.Core.List.{List, []}
use Prim.Native.Nat.{ℕ, zero, suc, ◌+◌, ◌-◌, ◌*◌, ◌≤◌, ◌<◌}
use native.Mathlib.Omega.{arith}
use native.Mathlib.Numerals.{add-one}
use borrow.Author.Tests.{le-leb, lt-leb, ltb-true, ltb-false}
use lib.Dec.{ltb}
use lib.ListN.{length, get_or}
use Rattle.rules.proofs.Tests.{tests}
use Rattle.gate_entries.specs.Entries.{size, Entry, fitting}
use Rattle.gate_lists.specs.Lists.{most, Said, good, refused, walk, octets_end, entries_end, entries_fault}

-- where a list goes on, and where it is over
pub octets_going : (s : List ℕ) (k : ℕ) → k * size < length s → octets_end s k ≡ false
octets_going s k h = lt-leb (length s) (k * size) h

pub octets_over : (s : List ℕ) (k : ℕ) → length s ≤ k * size → octets_end s k ≡ true
octets_over s k h = le-leb (length s) (k * size) h

pub entries_going : (es : List Entry) (k : ℕ) → k < length es → entries_end es k ≡ false
entries_going es k h = lt-leb (length es) k h

pub entries_over : (es : List Entry) (k : ℕ) → length es ≤ k → entries_end es k ≡ true
entries_over es k h = le-leb (length es) k h

-- what words are refused for
pub entries_fault_lem : (es : List Entry) (k : ℕ) (b : Bool) → fitting (get_or es k []) ≡ b → entries_fault es k ≡ cond b 0 61
entries_fault_lem es k b e = ap (λ (x : Bool). cond x 0 61) e

module _ (ended : ℕ → Bool) (fault : ℕ → ℕ) where
  -- what the walk says from there on
  abbrev pub from : ℕ → Said
  from k = walk ended fault (most - k) k

  walk_end : (m k : ℕ) → ended k ≡ true → walk ended fault m k ≡ good k
  unfolding walk
  walk_end zero k e = simp e
  walk_end (suc m) k e = simp e

  pub at_end : (k : ℕ) → ended k ≡ true → from k ≡ good k
  at_end k e = walk_end (most - k) k e

  walk_fault : (m k : ℕ) → ended k ≡ false → (fault k ≡ 0 → ⊥) → walk ended fault m k ≡ refused (fault k) (suc k)
  unfolding walk
  walk_fault zero k e f = simp (e, tests)
  walk_fault (suc m) k e f = simp (e, tests)

  pub at_fault : (k q : ℕ) → ended k ≡ false → fault k ≡ q → (q ≡ 0 → ⊥) → from k ≡ refused q (k + 1)
  at_fault k q e f n =
      walk_fault (most - k) k e (λ z. n (sym f ∙ z)) ∙ ap (λ (x : ℕ). refused x (suc k)) f ∙ ap (refused q) (sym (add-one k))

  walk_many : (k : ℕ) → ended k ≡ false → fault k ≡ 0 → walk ended fault zero k ≡ refused 63 (suc k)
  unfolding walk
  walk_many k e f = simp (e, f)

  pub at_most : (k : ℕ) → k ≡ most → ended k ≡ false → fault k ≡ 0 → from k ≡ refused 63 (k + 1)
  at_most k h e f =
      ap (λ (m : ℕ). walk ended fault m k) (let z : most - k ≡ 0 = omega arith in z) ∙ walk_many k e f ∙ ap (refused 63) (sym (add-one k))

  walk_on : (m k : ℕ) → ended k ≡ false → fault k ≡ 0 → walk ended fault (suc m) k ≡ walk ended fault m (suc k)
  unfolding walk
  walk_on m k e f = simp (e, f)

  pub at_next : (k : ℕ) → k < most → ended k ≡ false → fault k ≡ 0 → from (k + 1) ≡ from k
  at_next k h e f =
      let m : most - k ≡ suc (most - (k + 1)) = omega arith in
      ap (walk ended fault (most - (k + 1))) (add-one k) ∙ sym (ap (λ (x : ℕ). walk ended fault x k) m ∙ walk_on (most - (k + 1)) k e f)

  -- what the walk says of the whole list, told behind the k entries that passed: with a 257th it is refused
  abbrev pub behind : ℕ → Said
  behind k = cond (ltb most k) (refused 63 k) (from k)

  pub at_place : (k : ℕ) → k ≤ most → behind k ≡ from k
  at_place k h = simp tests

  pub behind_all : (k : ℕ) → k ≡ most + 1 → behind k ≡ refused 63 (most + 1)
  behind_all k h = ap behind h

  behind_next : (k : ℕ) (t : Bool) → ltb k most ≡ t → k ≤ most → ended k ≡ false → fault k ≡ 0 → behind (k + 1) ≡ behind k
  behind_next k true t h e f =
      let less : k < most = ltb-true k most t in
      at_place (k + 1) (omega arith) ∙ at_next k less e f ∙ sym (at_place k h)
  behind_next k false t h e f =
      let last : k ≡ most = omega (arith, ltb-false k most t) in
      behind_all (k + 1) (omega arith) ∙ ap (λ (x : ℕ). refused 63 (x + 1)) (sym last) ∙ sym (at_most k last e f) ∙ sym (at_place k h)

  pub one_more : (k : ℕ) → k ≤ most → ended k ≡ false → fault k ≡ 0 → behind (k + 1) ≡ behind k
  one_more k = behind_next k (ltb k most) refl
