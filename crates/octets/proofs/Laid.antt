-- Laws of a piece laid into memory: all that a caller needs to know of writing a slice piece by piece.
-- Assumes nothing.
use mathlib.Core.Path.{◌≡◌, sym, ap, ◌∙◌}
use mathlib.Core.List.{List, [], ◌∷◌, ◌++◌, append_assoc, append-nil}
use Prim.Native.Nat.{ℕ, suc, ◌+◌, ◌≤◌, ◌<◌}
use native.Mathlib.Nat.{zero-add, add-zero, add_assoc, add-suc}
use native.Mathlib.Omega.{arith}
use lib.ListN.{length, take, drop, set, get_or, length-append, length-drop, take-append-drop}
use lib.Seq.{take_at, drop_at, drop-cons, set_at, append_snoc, length-take-le, drop-drop}
use Rattle.octets.specs.Laid.{laid, over}

module _ {A : Type 0} where
  -- at the front
  pub laid_front : (xs p : List A) → laid xs 0 p ≡ over p xs
  unfolding laid
  laid_front xs p = ap (λ (k : ℕ). p ++ drop k xs) (zero-add (length p))

  -- nothing laid
  pub laid_none : (xs : List A) (at : ℕ) → laid xs at [] ≡ xs
  unfolding laid
  laid_none xs at =
      ap (λ (k : ℕ). take at xs ++ [] ++ drop k xs) (add-zero at)
      ∙ ap (λ (l : List A). l ++ drop at xs) (append-nil (take at xs)) ∙ take-append-drop at xs

  head_length : (xs p : List A) (at : ℕ) → at ≤ length xs → length (take at xs ++ p) ≡ at + length p
  head_length xs p at h = length-append (take at xs) p ∙ ap (λ (k : ℕ). k + length p) (length-take-le at xs h)

  -- the memory stays as long as it was
  pub length_laid : (xs : List A) (at : ℕ) (p : List A) → at + length p ≤ length xs → length (laid xs at p) ≡ length xs
  unfolding laid
  length_laid xs at p h =
      let hd : at ≤ length xs = omega arith in
      omega (arith, length-append (take at xs ++ p) (drop (at + length p) xs), head_length xs p at hd, length-drop (at + length p) xs)

  -- a second piece right behind the first
  pub laid_laid : (xs p q : List A) (at k : ℕ) → k ≡ at + length p → k + length q ≤ length xs → laid (laid xs at p) k q ≡ laid xs at (p ++ q)
  unfolding laid
  laid_laid xs p q at k e h =
      let hd : at ≤ length xs = omega arith in
      let le : length (take at xs ++ p) ≡ k = head_length xs p at hd ∙ sym e in
      let front : take k (laid xs at p) ≡ take at xs ++ p = take_at (take at xs ++ p) (drop (at + length p) xs) k le in
      let back : drop (k + length q) (laid xs at p) ≡ drop (at + length (p ++ q)) xs =
      sym (drop-drop (length q) k (laid xs at p))
      ∙ ap (λ (l : List A). drop (length q) l) (drop_at (take at xs ++ p) (drop (at + length p) xs) k le)
      ∙ drop-drop (length q) (at + length p) xs
      ∙ ap (λ (n : ℕ). drop n xs) (add_assoc at (length p) (length q) ∙ ap (λ (n : ℕ). at + n) (sym (length-append p q))) in
      ap (λ (l : List A). l ++ q ++ drop (k + length q) (laid xs at p)) front
      ∙ ap (λ (l : List A). take at xs ++ p ++ q ++ l) back
      ∙ ap (λ (l : List A). l ++ drop (at + length (p ++ q)) xs) (append_assoc (take at xs) p q)

  -- a piece right over another that is as long
  laid_again : (xs p q : List A) (at : ℕ) → length q ≡ length p → at + length p ≤ length xs → laid (laid xs at p) at q ≡ laid xs at q
  unfolding laid
  laid_again xs p q at e h =
      let hd : at ≤ length xs = omega arith in
      let front : take at (laid xs at p) ≡ take at xs =
      ap (take at) (append_assoc (take at xs) p (drop (at + length p) xs))
      ∙ take_at (take at xs) (p ++ drop (at + length p) xs) at (length-take-le at xs hd) in
      let back : drop (at + length p) (laid xs at p) ≡ drop (at + length p) xs =
      drop_at (take at xs ++ p) (drop (at + length p) xs) (at + length p) (head_length xs p at hd) in
      ap (λ (l : List A). l ++ q ++ drop (at + length q) (laid xs at p)) front
      ∙ ap (λ (n : ℕ). take at xs ++ q ++ drop (at + n) (laid xs at p)) e
      ∙ ap (λ (l : List A). take at xs ++ q ++ l) back ∙ ap (λ (n : ℕ). take at xs ++ q ++ drop (at + n) xs) (sym e)

  -- a piece whose end is laid anew
  pub laid_end : (xs p q q' : List A) (at k : ℕ) → length q' ≡ length q → k ≡ at + length p → k + length q ≤ length xs
      → laid (laid xs at (p ++ q)) k q' ≡ laid xs at (p ++ q')
  laid_end xs p q q' at k e d h =
      let n : length (laid xs at p) ≡ length xs = length_laid xs at p (omega arith) in
      ap (λ (l : List A). laid l k q') (sym (laid_laid xs p q at k d h))
      ∙ laid_again (laid xs at p) q q' k e (omega arith) ∙ laid_laid xs p q' at k d (omega arith)

  -- three pieces, laid one behind the other from the front, give one list
  pub three : (xs a b d : List A) (i j : ℕ) {x y z : List A} → x ≡ laid xs 0 a → y ≡ laid x i b → z ≡ laid y j d
      → i ≡ length a → j ≡ i + length b → j + length d ≤ length xs → z ≡ over (a ++ b ++ d) xs
  three xs a b d i j {x} {y} {z} ex ey ez ei ej h =
      let n : length (a ++ b) ≡ i + length b = length-append a b ∙ ap (λ (k : ℕ). k + length b) (sym ei) in
      let two : y ≡ laid xs 0 (a ++ b) =
      ey ∙ ap (λ (l : List A). laid l i b) ex ∙ laid_laid xs a b 0 i (omega arith) (omega arith) in
      ez ∙ ap (λ (l : List A). laid l j d) two ∙ laid_laid xs (a ++ b) d 0 j (omega arith) h ∙ laid_front xs (a ++ b ++ d)

  -- one element stored is a piece of one
  pub set_one : (xs : List A) (i : ℕ) (v : A) → i < length xs → set xs i v ≡ laid xs i (v ∷ [])
  unfolding laid
  set_one xs i v h =
      let le : length (take i xs) ≡ i = length-take-le i xs (omega arith) in
      ap (λ (l : List A). set l i v) (sym (take-append-drop i xs) ∙ ap (λ (l : List A). take i xs ++ l) (drop-cons xs i v h))
      ∙ set_at (take i xs) (get_or xs i v) (drop (suc i) xs) v i le
      ∙ sym (append_snoc (take i xs) v (drop (suc i) xs))
      ∙ ap (λ (n : ℕ). take i xs ++ (v ∷ []) ++ drop n xs) (sym (add-suc i 0 ∙ ap suc (add-zero i)))
