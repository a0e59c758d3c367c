-- Four octets copied; what is left of a copy, after one octet and after some; and a copy into a lent part.
-- Assumes nothing.
use mathlib.Core.Path.{◌≡◌, refl, sym, ap, ap₂, ◌∙◌}
use mathlib.Core.List.{List, [], ◌∷◌, ◌++◌, append_assoc, append-nil}
use Prim.Native.Nat.{ℕ, ◌+◌, ◌-◌, ◌*◌, ◌/◌, ◌≤◌, ◌<◌}
use borrow.Rule.Slice.PartMut.{put_mid, mid_of}
use native.Mathlib.Omega.{arith}
use native.Mathlib.Numerals.{add-one}
use lib.ListN.{length, take, drop, set, get_or, length-drop, take-append-drop, drop_of_length-le}
use lib.Seq.{drop-cons, drop-drop, length-take-le, take_all}
use Rattle.fours.specs.Word.{word_at, octets_of}
use Rattle.fours.proofs.Words.{octets_of_word}
use Rattle.octets.specs.Laid.{laid}
use Rattle.octets.proofs.Laid.{laid_front, laid_none, length_laid, laid_laid, set_one}

-- a piece copied into the part of the memory that it fills
copied : (xs p ys : List ℕ) (at k : ℕ) → ys ≡ p → k ≡ length p → put_mid at k xs ys ≡ laid xs at p
unfolding laid
copied xs p ys at k e ek =
    ap₂ (λ (l : List ℕ) (n : ℕ). take at xs ++ (l ++ drop n (drop at xs))) e ek
    ∙ sym (append_assoc (take at xs) p (drop (length p) (drop at xs)))
    ∙ ap (λ (l : List ℕ). take at xs ++ p ++ l) (drop-drop (length p) at xs)

-- four octets
pub word_copied : (xs s ys : List ℕ) (i w : ℕ) → ys ≡ octets_of w → w ≡ word_at s i → ((k : ℕ) → get_or s k 0 < 256) → i + 4 ≤ length s
    → put_mid i (i + 4 - i) xs ys ≡ laid xs i (take 4 (drop i s))
word_copied xs s ys i w e ew known h =
    let long : length (take 4 (drop i s)) ≡ 4 = length-take-le 4 (drop i s) (let g : 4 ≤ length (drop i s) = omega (arith, length-drop i s) in g) in
    copied xs (take 4 (drop i s)) ys i (i + 4 - i) (e ∙ ap octets_of ew ∙ octets_of_word s known i h) (omega arith)

-- one octet
pub one_turn : (xs src : List ℕ) (i : ℕ) → i < length src → length src ≤ length xs
    → laid (set xs i (get_or src i 0)) (i + 1) (drop (i + 1) src) ≡ laid xs i (drop i src)
one_turn xs src i h room =
    let n : length (drop (i + 1) src) + (i + 1) ≡ length src = omega (arith, length-drop (i + 1) src) in
    ap (λ (l : List ℕ). laid l (i + 1) (drop (i + 1) src)) (set_one xs i (get_or src i 0) (omega arith))
    ∙ laid_laid xs (get_or src i 0 ∷ []) (drop (i + 1) src) i (i + 1) refl (omega arith)
    ∙ ap (laid xs i) (sym (drop-cons src i 0 h ∙ ap (λ (k : ℕ). get_or src i 0 ∷ drop k src) (sym (add-one i))))

-- m octets
pub part_turn : (xs src : List ℕ) (m i j : ℕ) → j ≡ i + m → j ≤ length src → length src ≤ length xs
    → laid (laid xs i (take m (drop i src))) j (drop j src) ≡ laid xs i (drop i src)
part_turn xs src m i j e h room =
    let l : length (take m (drop i src)) ≡ m = length-take-le m (drop i src) (let g : m ≤ length (drop i src) = omega (arith, length-drop i src) in g) in
    let n : length (drop j src) + j ≡ length src = omega (arith, length-drop j src) in
    laid_laid xs (take m (drop i src)) (drop j src) i j (omega arith) (omega arith)
    ∙ ap (λ (q : List ℕ). laid xs i (take m (drop i src) ++ q)) (ap (λ (k : ℕ). drop k src) e ∙ sym (drop-drop m i src))
    ∙ ap (laid xs i) (take-append-drop m (drop i src))

-- eight octets, four at once
pub eight_turn : (xs src : List ℕ) (k : ℕ) → k < length src / 8 → length src ≤ length xs
    → laid (laid (laid xs (k * 8) (take 4 (drop (k * 8) src))) (k * 8 + 4) (take 4 (drop (k * 8 + 4) src))) ((k + 1) * 8) (drop ((k + 1) * 8) src)
    ≡ laid xs (k * 8) (drop (k * 8) src)
eight_turn xs src k h room =
    let p : List ℕ = take 4 (drop (k * 8) src) in
    let long : length p ≡ 4 = length-take-le 4 (drop (k * 8) src) (let g : 4 ≤ length (drop (k * 8) src) = omega (arith, length-drop (k * 8) src) in g) in
    let same : length (laid xs (k * 8) p) ≡ length xs = length_laid xs (k * 8) p (omega arith) in
    part_turn (laid xs (k * 8) p) src 4 (k * 8 + 4) ((k + 1) * 8) (omega arith) (omega arith) (omega arith)
    ∙ part_turn xs src 4 (k * 8) (k * 8 + 4) refl (omega arith) room

-- nothing left
pub none_left : (xs src : List ℕ) (i : ℕ) → length src ≤ i → laid xs i (drop i src) ≡ xs
none_left xs src i h = ap (laid xs i) (drop_of_length-le src h) ∙ laid_none xs i

-- a piece laid over the front of what `&mut xs[at..]` lends
pub laid_part : (xs p : List ℕ) (at k : ℕ) → k ≡ length xs - at → at + length p ≤ length xs
    → put_mid at k xs (laid (mid_of at k xs) 0 p) ≡ laid xs at p
unfolding laid
laid_part xs p at k e h =
    let n : length (drop at xs) ≡ k = length-drop at xs ∙ sym e in
    let whole : take k (drop at xs) ≡ drop at xs = take_all k (drop at xs) (omega arith) in
    let none : drop k (drop at xs) ≡ [] = drop_of_length-le (drop at xs) (let g : length (drop at xs) ≤ k = omega arith in g) in
    ap (λ (l : List ℕ). take at xs ++ (laid l 0 p ++ drop k (drop at xs))) whole
    ∙ ap (λ (l : List ℕ). take at xs ++ (laid (drop at xs) 0 p ++ l)) none
    ∙ ap (λ (l : List ℕ). take at xs ++ l) (append-nil (laid (drop at xs) 0 p) ∙ laid_front (drop at xs) p)
    ∙ sym (append_assoc (take at xs) p (drop (length p) (drop at xs)))
    ∙ ap (λ (l : List ℕ). take at xs ++ p ++ l) (drop-drop (length p) at xs)

pub ruleset octets_copied = (one_turn, none_left)
