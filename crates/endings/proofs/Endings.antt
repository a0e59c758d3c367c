-- What each ending means: done exactly by the FCS, more exactly by the mCRC, damaged by neither.
-- Assumes nothing.
use mathlib.Core.Path.{◌≡◌, refl, sym, ap, ap₂, subst}
use mathlib.Core.Bool.{Bool, true, false, cond, not, ◌&&◌}
use mathlib.Core.List.{List, [], ◌∷◌, ◌++◌}
use Prim.Native.Nat.{ℕ, ◌-◌, ◌≤◌, ◌<◌}
use native.Mathlib.Omega.{arith}
use borrow.Author.Tests.{eq-eqb, eqb-true}
use lib.Dec.{T, eqb}
use lib.ListN.{length, length-append, length-drop}
use lib.Seq.{take_at, drop_at, length-take-le}
use Rattle.rules.proofs.Tests.{both}
use Rattle.crc.specs.Crc.{register_over, fcs_of, mcrc_of}
use Rattle.endings.specs.Judge.{data_of, last_four, same, decided, ending_of}
use Rattle.endings.specs.declared.Ending.{Ending}
use Rattle.endings.specs.declared.Ending.TheVariants.{Done, More, Damaged}
use Rattle.crc.proofs.Laws.{fcs_length, mcrc_length, fcs_not_mcrc}

-- the test of two lists says what it should
same_self : (xs : List ℕ) → same xs xs ≡ true
unfolding same
same_self [] = refl
same_self (x ∷ xs) = ap₂ ◌&&◌ (eq-eqb x x refl) (same_self xs)

same_true : (xs ys : List ℕ) → same xs ys ≡ true → xs ≡ ys
unfolding same
same_true [] [] e = refl
same_true [] (y ∷ ys) e = absurd (subst (λ (t : Bool). T (not t)) e tt)
same_true (x ∷ xs) [] e = absurd (subst (λ (t : Bool). T (not t)) e tt)
same_true (x ∷ xs) (y ∷ ys) e =
    let p = both (eqb x y) (same xs ys) e in ap₂ (λ (a : ℕ) (l : List ℕ). a ∷ l) (eqb-true x y p.0) (same_true xs ys p.1)

same_false : (xs ys : List ℕ) → (xs ≡ ys → ⊥) → same xs ys ≡ false
same_false xs ys h = go (same xs ys) refl
  where
    go : (t : Bool) → same xs ys ≡ t → same xs ys ≡ false
    go true e = absurd (h (same_true xs ys e))
    go false e = e

-- the ending by the last four octets
pub done_if : (r n : ℕ) (last : List ℕ) → last ≡ fcs_of r → decided r n last ≡ Done n
unfolding decided
done_if r n last e = rw (e, same_self)

pub more_if : (r n : ℕ) (last : List ℕ) → last ≡ mcrc_of r → decided r n last ≡ More n r
unfolding decided
more_if r n last e = rw (e, same_false (mcrc_of r) (fcs_of r) (λ q. fcs_not_mcrc r (sym q)), same_self)

pub damaged_if : (r n : ℕ) (last : List ℕ) → (last ≡ fcs_of r → ⊥) → (last ≡ mcrc_of r → ⊥) → decided r n last ≡ Damaged
unfolding decided
damaged_if r n last p q = rw (same_false last (fcs_of r) p, same_false last (mcrc_of r) q)

-- and what an ending says of them
pub done_only : (r n k : ℕ) (last : List ℕ) → decided r n last ≡ Done k → (last ≡ fcs_of r) × (k ≡ n)
unfolding decided
done_only r n k last e = go (same last (fcs_of r)) (same last (mcrc_of r)) refl e
  where
    go : (t u : Bool) → same last (fcs_of r) ≡ t → cond t (Done n) (cond u (More n r) Damaged) ≡ Done k → (last ≡ fcs_of r) × (k ≡ n)
    go true u p q = (same_true last (fcs_of r) p, cc)
    go false true p q = let z : ◌≡◌ {A = ℕ} 0 1 = cc in absurd (omega arith)
    go false false p q = let z : ◌≡◌ {A = ℕ} 0 1 = cc in absurd (omega arith)

pub more_only : (r n k q : ℕ) (last : List ℕ) → decided r n last ≡ More k q → (last ≡ mcrc_of r) × ((k ≡ n) × (q ≡ r))
unfolding decided
more_only r n k q last e = go (same last (fcs_of r)) (same last (mcrc_of r)) refl e
  where
    go : (t u : Bool) → same last (mcrc_of r) ≡ u → cond t (Done n) (cond u (More n r) Damaged) ≡ More k q → (last ≡ mcrc_of r) × ((k ≡ n) × (q ≡ r))
    go true u p e = let z : ◌≡◌ {A = ℕ} 0 1 = cc in absurd (omega arith)
    go false true p e = (same_true last (mcrc_of r) p, (cc, cc))
    go false false p e = let z : ◌≡◌ {A = ℕ} 0 1 = cc in absurd (omega arith)

-- fewer than four octets are damaged
pub short_damaged : (r : ℕ) (s : List ℕ) → length s < 4 → ending_of r s ≡ Damaged
short_damaged r s h =
    let l : length (last_four s) < 4 = simp length-drop (omega arith) in
    let q : ℕ = register_over r (data_of s) in
    damaged_if q _ _ (λ e. omega (arith, ap length e, fcs_length q)) (λ e. omega (arith, ap length e, mcrc_length q))

-- how many octets are data
pub data_length : (s : List ℕ) → length (data_of s) ≡ length s - 4
data_length s = length-take-le (length s - 4) s (omega arith)

-- and how many are last
pub four_last : (s : List ℕ) → 4 ≤ length s → length (last_four s) ≡ 4
four_last s h = omega (arith, length-drop (length s - 4) s)

-- data with four octets behind them: the data, and the four
module _ (data' four : List ℕ) (h : length four ≡ 4) where
  before : length (data' ++ four) - 4 ≡ length data'
  before = omega (arith, length-append data' four)

  pub data_of_lem : data_of (data' ++ four) ≡ data'
  data_of_lem = take_at data' four _ (sym before)

  pub four_of : last_four (data' ++ four) ≡ four
  four_of = drop_at data' four _ (sym before)

-- what a sender wrote: data and the FCS of the frame so far, or data and its mCRC
pub ending_done : (r : ℕ) (xs : List ℕ) → ending_of r (xs ++ fcs_of (register_over r xs)) ≡ Done (length xs)
ending_done r xs =
    let h = fcs_length (register_over r xs) in
    rw (data_of_lem xs _ h, four_of xs _ h, before xs _ h) (done_if _ _ _ refl)

pub ending_more : (r : ℕ) (xs : List ℕ) → ending_of r (xs ++ mcrc_of (register_over r xs)) ≡ More (length xs) (register_over r xs)
ending_more r xs =
    let h = mcrc_length (register_over r xs) in
    rw (data_of_lem xs _ h, four_of xs _ h, before xs _ h) (more_if _ _ _ refl)

-- what any octets s, after the register r, end with: the data octets counted, and their register
abbrev pub Ends : ℕ → List ℕ → Ending → Type 0
Ends r s (Done n) = n ≡ length s - 4
Ends r s (More n running) = (n ≡ length s - 4) × (running ≡ register_over r (data_of s))
Ends r s Damaged = Unit {0}

pub ends : (r : ℕ) (s : List ℕ) → Ends r s (ending_of r s)
unfolding decided
ends r s = go (same (last_four s) (fcs_of (register_over r (data_of s)))) (same (last_four s) (mcrc_of (register_over r (data_of s))))
  where
    go : (t u : Bool) → Ends r s (cond t (Done (length s - 4)) (cond u (More (length s - 4) (register_over r (data_of s))) Damaged))
    go true u = refl
    go false true = (refl, refl)
    go false false = tt
