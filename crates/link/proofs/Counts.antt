-- Counts one to three places apart modulo 4, and runs of loss counted. Assumes nothing.
use mathlib.Core.Path.{◌≡◌, refl}
use mathlib.Core.List.{List, [], ◌∷◌, ◌++◌, append_assoc}
use Prim.Native.Nat.{ℕ, suc, ◌+◌, ◌%◌, ◌≤◌}
use native.Mathlib.Omega.{arith}
use Rattle.link.specs.Sender.{Fate, arrives, lost}
use Rattle.link.specs.Frames.{NeverFour}

-- one to three places on is another count
pub apart : (a b d : ℕ) → b ≡ (a + d) % 4 → 1 ≤ d → d ≤ 3 → b ≡ a → ⊥
apart a b d e l u s = omega arith

-- one place further on
pub further : (a b d : ℕ) → b ≡ (a + d) % 4 → (b + 1) % 4 ≡ (a + suc d) % 4
further a b d e = omega arith

-- the runs of loss in a list of fates, where c were lost just before it
abbrev pub Runs : ℕ → List Fate → Type 0
Runs c [] = Unit {0}
Runs c (lost ∷ l) = (suc c ≤ 3) × Runs (suc c) l
Runs c (arrives k ∷ l) = Runs 0 l

never_behind : (p l : List Fate) → NeverFour (p ++ l) → NeverFour l
never_behind p l h x y e = h (p ++ x) y (rw (e, append_assoc))

mutual
  pub runs : (l : List Fate) → NeverFour l → Runs 0 l
  runs [] h = tt
  runs (lost ∷ l) h = (omega arith, runs_one l h)
  runs (arrives k ∷ l) h = runs l (never_behind (arrives k ∷ []) l h)

  runs_one : (l : List Fate) → NeverFour (lost ∷ l) → Runs 1 l
  runs_one [] h = tt
  runs_one (lost ∷ l) h = (omega arith, runs_two l h)
  runs_one (arrives k ∷ l) h = runs l (never_behind (lost ∷ arrives k ∷ []) l h)

  runs_two : (l : List Fate) → NeverFour (lost ∷ lost ∷ l) → Runs 2 l
  runs_two [] h = tt
  runs_two (lost ∷ l) h = (omega arith, runs_three l h)
  runs_two (arrives k ∷ l) h = runs l (never_behind (lost ∷ lost ∷ arrives k ∷ []) l h)

  runs_three : (l : List Fate) → NeverFour (lost ∷ lost ∷ lost ∷ l) → Runs 3 l
  runs_three [] h = tt
  runs_three (lost ∷ l) h = absurd (h [] l refl)
  runs_three (arrives k ∷ l) h = runs l (never_behind (lost ∷ lost ∷ lost ∷ arrives k ∷ []) l h)
