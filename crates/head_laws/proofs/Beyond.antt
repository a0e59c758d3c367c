-- More octets than any mFrame has: the head is refused, and the first 1,531 of them decide how.
-- Assumes nothing.
use mathlib.Core.Path.{◌≡◌, refl, sym, ap, ◌∙◌}
use mathlib.Core.Bool.{Bool, true, false, cond}
use mathlib.Core.List.{List}
use Prim.Native.Nat.{ℕ, ◌+◌, ◌≤◌, ◌<◌}
use native.Mathlib.Omega.{arith}
use borrow.Author.Tests.{lt-ltb, le-ltb, ltb-true, ltb-false}
use lib.Dec.{ltb}
use lib.ListN.{length, take, get_or}
use lib.Seq.{get_or-take, length-take-le}
use Rattle.std.specs.Prelude.{Option, Some, None}
use Rattle.codes.specs.declared.FrameCount.{FrameCount}
use Rattle.codes.specs.declared.FragmentCount.{FragmentCount}
use Rattle.delimiters.specs.Delimiters.{delimiter_of, fragment_of}
use Rattle.delimiters.specs.declared.Delimiter.{Delimiter}
use Rattle.delimiters.specs.declared.Delimiter.TheVariants as D
use Rattle.mframe.specs.declared.Kind.{Kind}
use Rattle.mframe.specs.declared.Kind.TheVariants as K
use Rattle.preambles.specs.Preamble.{leading}
use Rattle.heads.specs.Head.{Reading, known, refused, sized_of, coded_of, delimited_of, behind, head_of}
use Rattle.preambles.proofs.Leading.{leading_take}
use Rattle.head_laws.specs.Beyond.{beyond}

many : (n : ℕ) (l : List ℕ) → 7 < n → behind n l ≡ refused 14 0
many n l h = simp (lt-ltb 7 n h)

module _ (m : List ℕ) (long : 1531 < length m) where
  front : List ℕ
  front = take 1531 m

  front_length : length front ≡ 1531
  unfolding front
  front_length = length-take-le 1531 m (omega arith)

  same : (place : ℕ) → place ≤ 8 → get_or front place 0 ≡ get_or m place 0
  unfolding front
  same place h = get_or-take 1531 m place 0 (omega arith)

  sized_beyond : (kind : Kind) (place : ℕ) → place ≤ 9 → sized_of kind place (length m) ≡ beyond (sized_of kind place (length front))
  sized_beyond kind place h =
      let l = front_length in
      let low : ltb (length m) (place + 64) ≡ false = le-ltb (length m) (place + 64) (omega arith) in
      let high : ltb (place + 1522) (length m) ≡ true = lt-ltb (place + 1522) (length m) (omega arith) in
      let front_low : ltb (length front) (place + 64) ≡ false = le-ltb (length front) (place + 64) (omega arith) in
      simp (low, high, front_low) (by (ltb (place + 1522) (length front)))
    where
      by : (b : Bool) → refused 13 0 ≡ beyond (cond b (refused 13 0) (known kind place))
      by true = refl
      by false = refl

  coded_beyond : (frame : FrameCount) (g : Option FragmentCount) (place : ℕ) → place ≤ 9 → coded_of frame g place (length m) ≡ beyond (coded_of frame g place (length front))
  coded_beyond frame (Some fragment) place h = sized_beyond (K.Continuation frame fragment) place h
  coded_beyond frame None place h = refl

  delimited_beyond : (d : Delimiter) (place : ℕ) → place ≤ 8 → delimited_of d place m ≡ beyond (delimited_of d place front)
  delimited_beyond D.Express place h = sized_beyond K.Express place (omega arith)
  delimited_beyond (D.Start frame) place h = sized_beyond (K.Start frame) place (omega arith)
  delimited_beyond (D.Continuation frame) place h =
      let l = front_length in
      let there : ltb place (length m) ≡ true = lt-ltb place (length m) (omega arith) in
      let front-there : ltb place (length front) ≡ true = lt-ltb place (length front) (omega arith) in
      simp (there, front-there, same place h) (coded_beyond frame (fragment_of (get_or m place 0)) (place + 1) (omega arith))
  delimited_beyond D.Verify place h = sized_beyond K.Verify place (omega arith)
  delimited_beyond D.Respond place h = sized_beyond K.Respond place (omega arith)
  delimited_beyond (D.Unknown bits) place h = refl

  behind_beyond : (n : ℕ) → n ≤ 7 → behind n m ≡ beyond (behind n front)
  behind_beyond n h =
      let l = front_length in
      let few : ltb 7 n ≡ false = le-ltb 7 n h in
      let there : ltb n (length m) ≡ true = lt-ltb n (length m) (omega arith) in
      let front-there : ltb n (length front) ≡ true = lt-ltb n (length front) (omega arith) in
      simp (few, there, front-there, same n (omega arith)) (delimited_beyond (delimiter_of (get_or m n 0)) (n + 1) (omega arith))

  pub head_beyond : head_of m ≡ beyond (head_of (take 1531 m))
  unfolding head_of front
  head_beyond = go (ltb 7 (leading m)) refl
    where
      go : (b : Bool) → ltb 7 (leading m) ≡ b → behind (leading m) m ≡ beyond (behind (leading front) front)
      go true e =
          let h : 7 < leading m = ltb-true 7 (leading m) e in
          many (leading m) m h ∙ sym (ap beyond (many (leading front) front (omega (arith, leading_take 1531 m))))
      go false e =
          let h : leading m ≤ 7 = ltb-false 7 (leading m) e in
          let n : leading front ≡ leading m = omega (arith, leading_take 1531 m) in
          behind_beyond (leading m) h ∙ ap (λ (k : ℕ). beyond (behind k front)) (sym n)

-- it is refused
pub beyond_refused : (h : Reading) → (number : ℕ) × ((detail : ℕ) × (beyond h ≡ refused number detail))
beyond_refused (known kind place) = (13, (0, refl))
beyond_refused (refused number detail) = (number, (detail, refl))
