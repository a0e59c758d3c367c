-- The values of tests: from the facts of branches, for `simp`; of a test that is made of two; and of what a test chooses.
-- Assumes nothing.
use mathlib.Core.Path.{◌≡◌, refl, sym}
use mathlib.Core.Logic.{◌⊎◌, inl, inr}
use mathlib.Core.Bool.{Bool, true, false, cond, ◌&&◌, ◌||◌, false≢true}
use Prim.Native.Nat.{ℕ, ◌≤◌, ◌<◌}
use native.Mathlib.Omega.{arith}
use borrow.Author.Tests.{ltb-true, ltb-false, lt-ltb, le-ltb, le-leb, lt-leb, eq-eqb, ne_eqb}
use lib.Dec.{ltb}

-- what turns the facts of branches, bound by a `let`, into the values of their tests
pub ruleset tests = (lt-ltb, le-ltb, le-leb, lt-leb, eq-eqb, ne_eqb)

-- a test made of two
pub both : (a b : Bool) → (a && b) ≡ true → (a ≡ true) × (b ≡ true)
both true b e = (refl, e)
both false b e = absurd (false≢true e)

pub either : (a b : Bool) → (a || b) ≡ true → (a ≡ true) ⊎ (b ≡ true)
either true b e = inl refl
either false b e = inr e

pub neither : (a b : Bool) → (a || b) ≡ false → (a ≡ false) × (b ≡ false)
neither true b e = absurd (false≢true (sym e))
neither false b e = (refl, e)

-- what holds of both choices holds of the one that a test takes
pub chosen : {A : Type 0} (P : A → Type 0) (b : Bool) (x y : A) → P x → P y → P (cond b x y)
chosen P true x y p q = p
chosen P false x y p q = q

pub by_test : {A : Type 0} (P : A → Type 0) (b : Bool) {x y : A} → (b ≡ true → P x) → (b ≡ false → P y) → P (cond b x y)
by_test P true f g = f refl
by_test P false f g = g refl

-- a test made of two of which one fails
pub no_and : (a : Bool) {b : Bool} → b ≡ false → (a && b) ≡ false
no_and true e = e
no_and false e = refl

pub first_none : {a b : Bool} → a ≡ false → (a || b) ≡ b
first_none e = rw e refl

pub second_none : (a : Bool) {b : Bool} → b ≡ false → (a || b) ≡ a
second_none true e = refl
second_none false e = e

-- a number is below another or not
pub below : (j n : ℕ) → (j < n) ⊎ (n ≤ j)
below j n = go (ltb j n) refl
  where
    go : (b : Bool) → ltb j n ≡ b → (j < n) ⊎ (n ≤ j)
    go true e = inl (ltb-true j n e)
    go false e = inr (ltb-false j n e)

-- a test that fails does not pass
pub failed : {A : Type 0} → false ≡ true → A
failed w = absurd (false≢true w)

-- two answers that differ are not the same
pub never : {A : Type 0} → ◌≡◌ {A = ℕ} 0 1 → A
never z = absurd (let y : ⊥ = omega arith in y)
