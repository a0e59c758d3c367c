-- A head that loses a leading octet 55 says the same, one place earlier.
-- Assumes nothing.
use mathlib.Core.Path.{◌≡◌, refl, sym, ap, ◌∙◌}
use mathlib.Core.Bool.{Bool, true, false, cond, false≢true}
use mathlib.Core.List.{List, ◌∷◌}
use Prim.Native.Nat.{ℕ, suc, ◌+◌, ◌-◌, ◌≤◌, ◌<◌}
use native.Mathlib.Omega.{arith}
use borrow.Author.Tests.{lt-ltb, le-ltb, ltb-true, ltb-false}
use lib.Dec.{ltb}
use lib.ListN.{length, get_or}
use Rattle.std.specs.Prelude.{Option, Some, None}
use Rattle.codes.specs.declared.FrameCount.{FrameCount}
use Rattle.codes.specs.declared.FragmentCount.{FragmentCount}
use Rattle.delimiters.specs.Delimiters.{delimiter_of, fragment_of}
use Rattle.delimiters.specs.declared.Delimiter.{Delimiter}
use Rattle.delimiters.specs.declared.Delimiter.TheVariants as D
use Rattle.mframe.specs.declared.Kind.{Kind}
use Rattle.mframe.specs.declared.Kind.TheVariants as K
use Rattle.preambles.specs.Preamble.{leading}
use Rattle.heads.specs.Head.{Reading, known, refused, sized_of, coded_of, delimited_of, behind, head_of, is_known}

-- a test of two numbers, and of both one greater
ltb_suc : (a b : ℕ) {c d : ℕ} → c ≡ suc a → d ≡ suc b → ltb c d ≡ ltb a b
ltb_suc a b {c} {d} p q = go (ltb a b) refl
  where
    go : (t : Bool) → ltb a b ≡ t → ltb c d ≡ t
    go true e = lt-ltb c d (let h : a < b = ltb-true a b e in omega arith)
    go false e = le-ltb c d (let h : b ≤ a = ltb-false a b e in omega arith)

suc_sum : (a b : ℕ) → suc a + b ≡ suc (a + b)
suc_sum a b = omega arith

-- a head one place later
abbrev later : Reading → Reading
later (known kind place) = known kind (suc place)
later (refused number detail) = refused number detail

-- octets m behind one more
module _ (x : ℕ) (m : List ℕ) where
  sized_later : (kind : Kind) (place : ℕ) → sized_of kind (suc place) (length (x ∷ m)) ≡ later (sized_of kind place (length m))
  sized_later kind place =
      let low : ltb (length (x ∷ m)) (suc place + 64) ≡ ltb (length m) (place + 64) = ltb_suc (length m) (place + 64) refl (suc_sum place 64) in
      let high : ltb (suc place + 1522) (length (x ∷ m)) ≡ ltb (place + 1522) (length m) = ltb_suc (place + 1522) (length m) (suc_sum place 1522) refl in
      rw (low, high) (by (ltb (length m) (place + 64)) (ltb (place + 1522) (length m)))
    where
      by : (a b : Bool) → cond a (refused 12 0) (cond b (refused 13 0) (known kind (suc place))) ≡ later (cond a (refused 12 0) (cond b (refused 13 0) (known kind place)))
      by true b = refl
      by false true = refl
      by false false = refl

  coded_later : (frame : FrameCount) (g : Option FragmentCount) (place : ℕ) → coded_of frame g (suc place) (length (x ∷ m)) ≡ later (coded_of frame g place (length m))
  coded_later frame (Some fragment) place = sized_later (K.Continuation frame fragment) place
  coded_later frame None place = refl

  delimited_later : (d : Delimiter) (place : ℕ) → delimited_of d (suc place) (x ∷ m) ≡ later (delimited_of d place m)
  delimited_later D.Express place = sized_later K.Express place
  delimited_later (D.Start frame) place = sized_later (K.Start frame) place
  delimited_later (D.Continuation frame) place =
      let there : ltb (suc place) (length (x ∷ m)) ≡ ltb place (length m) = ltb_suc place (length m) refl refl in
      rw there (by (ltb place (length m)))
    where
      by : (b : Bool) → cond b (coded_of frame (fragment_of (get_or m place 0)) (suc place + 1) (length (x ∷ m))) (refused 12 0)
          ≡ later (cond b (coded_of frame (fragment_of (get_or m place 0)) (place + 1) (length m)) (refused 12 0))
      by true = ap (λ (k : ℕ). coded_of frame (fragment_of (get_or m place 0)) k (length (x ∷ m))) (suc_sum place 1)
          ∙ coded_later frame (fragment_of (get_or m place 0)) (place + 1)
      by false = refl
  delimited_later D.Verify place = sized_later K.Verify place
  delimited_later D.Respond place = sized_later K.Respond place
  delimited_later (D.Unknown bits) place = refl

  behind_later : (n : ℕ) → n ≤ 6 → behind (suc n) (x ∷ m) ≡ later (behind n m)
  behind_later n h =
      let few : ltb 7 (suc n) ≡ false = le-ltb 7 (suc n) (omega arith) in
      let fewer : ltb 7 n ≡ false = le-ltb 7 n (omega arith) in
      let there : ltb (suc n) (length (x ∷ m)) ≡ ltb n (length m) = ltb_suc n (length m) refl refl in
      rw (few, fewer, there) (by (ltb n (length m)))
    where
      by : (b : Bool) → cond b (delimited_of (delimiter_of (get_or m n 0)) (suc n + 1) (x ∷ m)) (refused 12 0)
          ≡ later (cond b (delimited_of (delimiter_of (get_or m n 0)) (n + 1) m) (refused 12 0))
      by true = ap (λ (k : ℕ). delimited_of (delimiter_of (get_or m n 0)) k (x ∷ m)) (suc_sum n 1)
          ∙ delimited_later (delimiter_of (get_or m n 0)) (n + 1)
      by false = refl

-- a place of a head, and the head one place earlier
abbrev placed : Reading → ℕ
placed (known kind place) = place
placed (refused number detail) = 1

abbrev earlier : Reading → Reading
earlier (known kind place) = known kind (place - 1)
earlier (refused number detail) = refused number detail

not_first : (h : Reading) → 1 ≤ placed (later h)
not_first (known kind place) = omega arith
not_first (refused number detail) = omega arith

back : (h : Reading) → earlier (later h) ≡ h
back (known kind place) = ap (known kind) (let e : suc place - 1 ≡ place = omega arith in e)
back (refused number detail) = refl

module _ (m : List ℕ) {kind : Kind} {place : ℕ} (e : head_of (0x55 ∷ m) ≡ known kind place) where
  -- it is not the eighth
  few : (b : Bool) → ltb 6 (leading m) ≡ b → head_of (0x55 ∷ m) ≡ later (head_of m)
  unfolding head_of leading
  few true q =
      let many : ltb 7 (1 + leading m) ≡ true = lt-ltb 7 (1 + leading m) (let h = ltb-true 6 (leading m) q in omega arith) in
      absurd (false≢true (ap is_known (sym (let w : head_of (0x55 ∷ m) ≡ refused 14 0 = simp many in w) ∙ e)))
  few false q = ap (λ (k : ℕ). behind k (0x55 ∷ m)) (let w : 1 + leading m ≡ suc (leading m) = omega arith in w) ∙ behind_later 0x55 m (leading m) (ltb-false 6 (leading m) q)

  is_later : later (head_of m) ≡ known kind place
  is_later = sym (few (ltb 6 (leading m)) refl) ∙ e

  pub one_less : (1 ≤ place) × (head_of m ≡ known kind (place - 1))
  one_less = (omega (arith, not_first (head_of m), ap placed is_later), sym (back (head_of m)) ∙ ap earlier is_later)
