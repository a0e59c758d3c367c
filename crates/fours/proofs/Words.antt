-- Four octets as a number: reading them and giving them out, and that neither loses anything.
-- Assumes nothing.
use mathlib.Core.Path.{◌≡◌, refl, sym, ap, ◌∙◌}
use mathlib.Core.List.{List, [], ◌∷◌}
use Prim.Native.Nat.{ℕ, zero, suc, ◌+◌, ◌*◌, ◌/◌, ◌%◌, ◌^◌, ◌≤◌, ◌<◌}
use native.Mathlib.Omega.{arith}
use native.Mathlib.Numerals.{add-one}
use lib.ListN.{length, take, drop, get_or}
use lib.Seq.{drop-cons}
use Rattle.std.proofs.lemmas.Nat.{le_bytes_4, from_le_bytes-to_le_bytes_4}
use Rattle.fours.specs.Word.{word_of, word_at, octets_of}

-- four octets, one after the other
next : (s : List ℕ) (i j : ℕ) → i < length s → j ≡ i + 1 → drop i s ≡ get_or s i 0 ∷ drop j s
next s i j h e = drop-cons s i 0 h ∙ ap (λ (k : ℕ). get_or s i 0 ∷ drop k s) (sym (e ∙ add-one i))

-- the first of some octets, and the others
pub first_of : (s : List ℕ) (m k j : ℕ) → k < length s → j ≡ k + 1 → take (suc m) (drop k s) ≡ get_or s k 0 ∷ take m (drop j s)
first_of s m k j h e = ap (take (suc m)) (next s k j h e)

pub four_of : (s : List ℕ) (i : ℕ) → i + 4 ≤ length s
    → take 4 (drop i s) ≡ get_or s i 0 ∷ get_or s (i + 1) 0 ∷ get_or s (i + 2) 0 ∷ get_or s (i + 3) 0 ∷ []
four_of s i h =
    let x : ℕ → ℕ = λ k. get_or s k 0 in
    first_of s 3 i (i + 1) (omega arith) refl
    ∙ ap (λ (l : List ℕ). x i ∷ l) (first_of s 2 (i + 1) (i + 2) (omega arith) (omega arith)
    ∙ ap (λ (l : List ℕ). x (i + 1) ∷ l) (first_of s 1 (i + 2) (i + 3) (omega arith) (omega arith)
    ∙ ap (λ (l : List ℕ). x (i + 2) ∷ l) (first_of s 0 (i + 3) (i + 4) (omega arith) (omega arith))))

-- the octets of a word of four octets
small : (a b c d : ℕ) → a < 256 → b < 256 → c < 256 → d < 256 → (k : ℕ) → get_or (a ∷ b ∷ c ∷ d ∷ []) k 0 < 256
small a b c d ha hb hc hd zero = ha
small a b c d ha hb hc hd (suc zero) = hb
small a b c d ha hb hc hd (suc (suc zero)) = hc
small a b c d ha hb hc hd (suc (suc (suc zero))) = hd
small a b c d ha hb hc hd (suc (suc (suc (suc k)))) = omega arith

pub digits : (a b c d : ℕ) → a < 256 → b < 256 → c < 256 → d < 256 → octets_of (a + b * 256 + c * 65536 + d * 16777216) ≡ a ∷ b ∷ c ∷ d ∷ []
unfolding octets_of
digits a b c d ha hb hc hd = le_bytes_4 (a ∷ b ∷ c ∷ d ∷ []) _ refl (small a b c d ha hb hc hd) refl

pub octets_of_word : (s : List ℕ) → ((k : ℕ) → get_or s k 0 < 256) → (i : ℕ) → i + 4 ≤ length s → octets_of (word_at s i) ≡ take 4 (drop i s)
octets_of_word s o i h =
    digits (get_or s i 0) (get_or s (i + 1) 0) (get_or s (i + 2) 0) (get_or s (i + 3) 0) (o i) (o (i + 1)) (o (i + 2)) (o (i + 3)) ∙ sym (four_of s i h)

-- four octets make a number of 32 bits
pub wide : (a b c d : ℕ) → a < 256 → b < 256 → c < 256 → d < 256 → word_of a b c d < 2 ^ 32
wide a b c d ha hb hc hd = omega arith

-- a number of 32 bits is what its four octets make, and so given by them
pub word_back : (w : ℕ) → w < 2 ^ 32 → word_of (w % 256) (w / 256 % 256) (w / 65536 % 256) (w / 16777216 % 256) ≡ w
word_back w h = from_le_bytes-to_le_bytes_4 w h

pub octets_inj : (v w : ℕ) → v < 2 ^ 32 → w < 2 ^ 32 → octets_of v ≡ octets_of w → v ≡ w
unfolding octets_of
octets_inj v w hv hw e = sym (word_back v hv) ∙ ap (λ (l : List ℕ). word_at l 0) e ∙ word_back w hw
