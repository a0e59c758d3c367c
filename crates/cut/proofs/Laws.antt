-- The part that goes now: the closed form that the code goes by, and what the paper says of it.
-- Assumes nothing.
use mathlib.Core.Path.{◌≡◌, refl, subst}
use mathlib.Core.Bool.{Bool, true, false, and-false}
use Prim.Native.Nat.{ℕ, zero, suc, ◌+◌, ◌-◌, ◌≤◌, ◌<◌, max}
use native.Mathlib.Omega.{arith}
use native.Mathlib.Decide.{dec_lt}
use borrow.Author.Tests.{le-leb, lt-leb}
use Rattle.std.specs.Prelude.{Option, Some, None}
use Rattle.cut.specs.Cut.{minimum, lawful, first_of, part_of}

-- which numbers pass the test
passes : (L s m t n : ℕ) → t ≤ n → m ≤ n → 64 ≤ L - s - n → lawful L s m t n ≡ true
unfolding lawful
passes L s m t n a b d = simp (le-leb t n a, le-leb m n b, le-leb 64 (L - s - n) d)

early : (L s m t n : ℕ) → n < max t m → lawful L s m t n ≡ false
unfolding lawful
early L s m t n h =
    elim (dec_lt n t) [ yes a ↦ simp (lt-leb t n a) | no a ↦ (let b : n < m = omega arith in simp (lt-leb m n b, and-false)) ]

late : (L s m t n : ℕ) → L - s - n < 64 → lawful L s m t n ≡ false
unfolding lawful
late L s m t n h = simp (lt-leb 64 (L - s - n) h, and-false)

-- what the search finds
hit : (p : ℕ → Bool) (n : ℕ) → p n ≡ true → ((i : ℕ) → i < n → p i ≡ false) → (k i : ℕ) → i ≤ n → n < i + k → first_of p k i ≡ Some n
unfolding first_of
hit p n y none zero i le lt = absurd (let z : ⊥ = omega arith in z)
hit p n y none (suc k) i le lt =
    elim (dec_lt i n) [
      | yes h ↦ rw (none i h) (hit p n y none k (suc i) h (omega arith))
      | no h ↦ (let e : i ≡ n = omega arith in simp (e, y))
    ]

miss : (p : ℕ → Bool) → ((i : ℕ) → p i ≡ false) → (k i : ℕ) → first_of p k i ≡ None
unfolding first_of
miss p none zero i = refl
miss p none (suc k) i = rw (none i) (miss p none k (suc i))

-- the closed form: the greater of t and m, where that leaves 64
pub cut_at : (L s m t n : ℕ) → n ≡ max t m → 64 ≤ L - s - n → part_of L s m (Some t) ≡ Some n
unfolding part_of
cut_at L s m t n e h =
    hit (lawful L s m t) n (passes L s m t n (omega arith) (omega arith) h) (λ i b. early L s m t i (omega arith)) L 0 (omega arith) (omega arith)

pub cut_none : (L s m t : ℕ) → L - s - max t m < 64 → part_of L s m (Some t) ≡ None
unfolding part_of
cut_none L s m t h =
    miss (lawful L s m t) (λ i. elim (dec_lt i (max t m)) [ yes b ↦ early L s m t i b | no b ↦ late L s m t i (omega arith) ]) L 0

pub unasked : (L s m : ℕ) → part_of L s m None ≡ None
unfolding part_of
unasked L s m = refl

-- the paper's words: a part is the least lawful cut, or whole exactly if no cut is lawful
pub record Lawful (L s m t n : ℕ) : Type 0 where
  pub asked : t ≤ n
  pub enough : m ≤ n
  pub left : 64 ≤ L - s - n

abbrev pub Least : ℕ → ℕ → ℕ → ℕ → Option ℕ → Type 0
Least L s m t None = (n : ℕ) → Lawful L s m t n → ⊥
Least L s m t (Some n) = Lawful L s m t n × ((k : ℕ) → Lawful L s m t k → n ≤ k)

pub least_lawful : (L s m t : ℕ) → Least L s m t (part_of L s m (Some t))
least_lawful L s m t =
    elim (dec_lt (L - s - max t m) 64) [
      | yes h ↦ rw (cut_none L s m t h) (λ n w. let z : ⊥ = omega arith in z)
      | no h ↦ rw (cut_at L s m t (max t m) refl (omega arith)) (omega arith, λ k w. omega arith)
    ]

-- a cut is m octets or more, and leaves 64 octets or more
pub cut_room : (L s m : ℕ) (ask : Option ℕ) (n : ℕ) → part_of L s m ask ≡ Some n → (m ≤ n) × (s + n + 64 ≤ L)
unfolding part_of
cut_room L s m None n e = absurd (let z : ◌≡◌ {A = ℕ} 0 1 = cc in let y : ⊥ = omega arith in y)
cut_room L s m (Some t) n e =
    let w : Lawful L s m t n = (subst (λ (p : Option ℕ). Least L s m t p) e (least_lawful L s m t)).0 in
    (omega arith, omega arith)

-- document 01's "So no frame under 128 octets is cut", of which the m of document 02, (ii) makes 124
pub short_whole : (L s extra : ℕ) (ask : Option ℕ) → L < 124 → part_of L s (minimum extra) ask ≡ None
short_whole L s extra None h = unasked L s (minimum extra)
short_whole L s extra (Some t) h = cut_none L s (minimum extra) t (omega arith)
