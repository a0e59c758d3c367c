-- A list is good exactly if each of its entries passes, and there are 256 at most.
-- Assumes nothing.
use mathlib.Core.Path.{◌≡◌, refl, sym, ap, ◌∙◌, subst}
use mathlib.Core.Bool.{Bool, true, false, cond}
use mathlib.Core.List.{List, []}
use Prim.Native.Nat.{ℕ, zero, suc, ◌+◌, ◌*◌, ◌≤◌, ◌<◌}
use native.Mathlib.Omega.{arith}
use borrow.Author.Tests.{leb-true, leb-false, eqb-true, eqb-false}
use lib.Dec.{eqb}
use lib.ListN.{length, get_or}
use Rattle.gate_entries.specs.Entries.{size, Entry, fault_at, fitting}
use Rattle.gate_entries.proofs.Laws.{passed}
use Rattle.gate_lists.specs.Lists.{most, Said, good, refused, short, value_of, walk, octets_end, octets_fault, of_octets, entries_end, entries_fault, of_entries}
use Rattle.gate_lists.proofs.Laws.{from, at_end, at_next, octets_going, octets_over, entries_going, entries_over, entries_fault_lem}

-- what is refused is not good
abbrev other : Said → ℕ
other (good n) = 0
other (refused q k) = 1
other (short n) = 2

pub not_good : {A : Type 0} (q k n : ℕ) → refused q k ≡ good n → A
not_good q k n e = let z : ◌≡◌ {A = ℕ} 1 0 = ap other e in absurd (let y : ⊥ = omega arith in y)

module _ (ended : ℕ → Bool) (fault : ℕ → ℕ) where
  -- an entry that is there and passes
  pub record Passing (k : ℕ) : Type 0 where
    pub there : ended k ≡ false
    pub faultless : fault k ≡ 0

  -- from k on up to n, m at most, each entry passes, and there is none behind them
  pub record Whole (m k n : ℕ) : Type 0 where
    pub least : k ≤ n
    pub bound : n ≤ k + m
    pub over : ended n ≡ true
    pub each : (j : ℕ) → k ≤ j → j < n → Passing j

  none_left : (m k n : ℕ) → k ≡ n → ended k ≡ true → Whole m k n
  none_left m k n h e =
      record { least = omega arith; bound = omega arith; over = subst (λ (j : ℕ). ended j ≡ true) h e; each = λ j a b. absurd (let y : ⊥ = omega arith in y) }

  first_or : (k n : ℕ) → Passing k → ((j : ℕ) → suc k ≤ j → j < n → Passing j) → (j : ℕ) → k ≤ j → j < n → (t : Bool) → eqb k j ≡ t → Passing j
  first_or k n p q j a b true t = subst Passing (eqb-true k j t) p
  first_or k n p q j a b false t = q j (let ne : k ≡ j → ⊥ = eqb-false k j t in omega arith) b

  one_more : (m k n : ℕ) → Whole m (suc k) n → Passing k → Whole (suc m) k n
  one_more m k n w p =
      let h = w.least in
      let b = w.bound in
      record { least = omega arith; bound = omega arith; over = w.over; each = λ j a z. first_or k n p w.each j a z (eqb k j) refl }

  -- a walk that ends well goes on only behind an entry that passes
  on : (m k n q : ℕ) (r : Said) → (r ≡ good n → Passing k → Whole m k n) → (a b : Bool) → ended k ≡ a → eqb (fault k) 0 ≡ b
      → cond a (good k) (cond b r (refused q (suc k))) ≡ good n → Whole m k n
  on m k n q r f true b e t w = none_left m k n (ap value_of w) e
  on m k n q r f false true e t w = f w (record { there = e; faultless = eqb-true (fault k) 0 t })
  on m k n q r f false false e t w = not_good q (suc k) n w

  walked : (m k n : ℕ) → walk ended fault m k ≡ good n → Whole m k n
  unfolding walk
  walked zero k n w =
      on zero k n (fault k) (refused 63 (suc k)) (λ r p. not_good 63 (suc k) n r) (ended k) (eqb (fault k) 0) refl refl w
  walked (suc m) k n w =
      on (suc m) k n (fault k) (walk ended fault m (suc k)) (λ r p. one_more m k n (walked m (suc k) n r) p) (ended k) (eqb (fault k) 0) refl refl w

  -- and entries that all pass make a walk that ends well
  goes : (d k n : ℕ) → n ≡ k + d → n ≤ most → ended n ≡ true → ((j : ℕ) → j < n → Passing j) → from ended fault k ≡ good n
  goes zero k n h b e p =
      let z : n ≡ k = omega arith in
      at_end ended fault k (subst (λ (j : ℕ). ended j ≡ true) z e) ∙ ap good (sym z)
  goes (suc d) k n h b e p =
      let here = p k (omega arith) in
      sym (at_next ended fault k (omega arith) here.there here.faultless) ∙ goes d (k + 1) n (omega arith) b e p

-- octets: seven for each entry
pub record GoodOctets (s : List ℕ) (n : ℕ) : Type 0 where
  pub bound : n ≤ most
  pub exact : length s ≡ n * size
  pub each : (k : ℕ) → k < n → fault_at s (k * size) ≡ 0

long : (s : List ℕ) (n : ℕ) → ((j : ℕ) → 0 ≤ j → j < n → Passing (octets_end s) (octets_fault s) j) → n * size ≤ length s
long s zero p = omega arith
long s (suc n) p = let r = (passed s (n * size) (p n (omega arith) (omega arith)).faultless).room in omega arith

pub octets_good : (s : List ℕ) (n : ℕ) → of_octets s ≡ good n → GoodOctets s n
octets_good s n e =
    let w = walked (octets_end s) (octets_fault s) most 0 n e in
    let b = w.bound in
    let over : length s ≤ n * size = leb-true (length s) (n * size) w.over in
    let all = long s n w.each in
    record { bound = omega arith; exact = omega arith; each = λ k h. (w.each k (omega arith) h).faultless }

pub good_octets : (s : List ℕ) (n : ℕ) → n ≤ most → length s ≡ n * size → ((k : ℕ) → k < n → fault_at s (k * size) ≡ 0) → of_octets s ≡ good n
good_octets s n b l f =
    goes (octets_end s) (octets_fault s) n 0 n (omega arith) b (octets_over s n (omega arith))
    (λ j h. record { there = octets_going s j (omega arith); faultless = f j h })

-- entries to be written: all of them
pub record GoodEntries (es : List Entry) (n : ℕ) : Type 0 where
  pub bound : n ≤ most
  pub all : n ≡ length es
  pub each : (k : ℕ) → k < n → fitting (get_or es k []) ≡ true

fits_only : (es : List Entry) (k : ℕ) (b : Bool) → fitting (get_or es k []) ≡ b → entries_fault es k ≡ 0 → fitting (get_or es k []) ≡ true
fits_only es k true t e = t
fits_only es k false t e = let z : ◌≡◌ {A = ℕ} 61 0 = sym (entries_fault_lem es k false t) ∙ e in absurd (let y : ⊥ = omega arith in y)

reached : (es : List Entry) (n : ℕ) → ((j : ℕ) → 0 ≤ j → j < n → Passing (entries_end es) (entries_fault es) j) → n ≤ length es
reached es zero p = omega arith
reached es (suc n) p = let r : n < length es = leb-false (length es) n (p n (omega arith) (omega arith)).there in omega arith

pub entries_good : (es : List Entry) (n : ℕ) → of_entries es ≡ good n → GoodEntries es n
entries_good es n e =
    let w = walked (entries_end es) (entries_fault es) most 0 n e in
    let b = w.bound in
    let over : length es ≤ n = leb-true (length es) n w.over in
    let most-of = reached es n w.each in
    record { bound = omega arith; all = omega arith; each = λ k h. fits_only es k (fitting (get_or es k [])) refl (w.each k (omega arith) h).faultless }

pub good_entries : (es : List Entry) → length es ≤ most → ((k : ℕ) → k < length es → fitting (get_or es k []) ≡ true) → of_entries es ≡ good (length es)
good_entries es b f =
    goes (entries_end es) (entries_fault es) (length es) 0 (length es) (omega arith) b (entries_over es (length es) (omega arith))
    (λ j h. record { there = entries_going es j h; faultless = entries_fault_lem es j true (f j h) })
