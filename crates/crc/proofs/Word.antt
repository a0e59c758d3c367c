-- Four octets at once, and a turn of a loop of bit steps.
-- Assumes nothing.
use mathlib.Core.Path.{◌≡◌, refl, sym, ap, ◌∙◌}
use mathlib.Core.List.{List, [], ◌∷◌, ◌++◌}
use Prim.Native.Nat.{ℕ, zero, suc, ◌+◌, ◌-◌, ◌*◌, ◌/◌, ◌%◌, ◌^◌, ◌≤◌, ◌<◌}
use native.Mathlib.Nat.{add_comm}
use native.Mathlib.Omega.{arith}
use lib.Bits.{bit_xor, xor_shifted, xor_comm, xor_zero_l}
use lib.ListN.{length, take, drop, get_or, length-drop, take-append-drop}
use lib.Seq.{drop-drop, length-take-le}
use Rattle.std.proofs.lemmas.List.{get_or-drop, get_or-take}
use Rattle.std.specs.Simd.{first_chunks}
use Rattle.crc.specs.Crc.{polynomial, bit_step, bit_steps, octet_step, register_over}
use Rattle.fours.specs.Word.{word_at}
use Rattle.crc.proofs.Linear.{steps_xor, steps_shifted, steps_add}
use Rattle.crc.proofs.Xor.{xor_assoc}

-- a bit step by the bit that leaves
pub step_even : (r : ℕ) → r % 2 ≡ 0 → r / 2 ≡ bit_step r
unfolding bit_step
step_even r e = sym (ap (λ (x : ℕ). bit_xor (x * polynomial) (r / 2)) e ∙ xor_zero_l (r / 2))

pub step_odd : (r : ℕ) → r % 2 ≡ 1 → bit_xor polynomial (r / 2) ≡ bit_step r
unfolding bit_step
step_odd r e = sym (ap (λ (x : ℕ). bit_xor (x * polynomial) (r / 2)) e)

-- a loop's turn, and its end
steps_suc : (n r : ℕ) → bit_steps n (bit_step r) ≡ bit_steps (suc n) r
unfolding bit_steps
steps_suc n r = refl

pub steps_turn : (n k r : ℕ) → k < n → bit_steps (n - (k + 1)) (bit_step r) ≡ bit_steps (n - k) r
steps_turn n k r h =
    steps_suc (n - (k + 1)) r ∙ ap (λ (m : ℕ). bit_steps m r) (let e : suc (n - (k + 1)) ≡ n - k = omega arith in e)

pub steps_end : (n k r : ℕ) → n ≤ k → bit_steps (n - k) r ≡ r
unfolding bit_steps
steps_end n k r h = ap (λ (m : ℕ). bit_steps m r) (let e : n - k ≡ 0 = omega arith in e)

-- an octet more, put in behind k steps
more : (k w x : ℕ) → octet_step (bit_steps k w) x ≡ bit_steps (k + 8) (bit_xor w (x * 2 ^ k))
unfolding octet_step
more k w x =
    ap (λ (y : ℕ). bit_steps 8 (bit_xor (bit_steps k w) y)) (sym (steps_shifted k x))
    ∙ ap (bit_steps 8) (sym (steps_xor k w (x * 2 ^ k))) ∙ sym (steps_add k 8 (bit_xor w (x * 2 ^ k)))

joined : (r a k x : ℕ) → a < 2 ^ k → bit_xor (bit_xor r a) (x * 2 ^ k) ≡ bit_xor r (a + x * 2 ^ k)
joined r a k x h =
    xor_assoc r a (x * 2 ^ k)
    ∙ ap (bit_xor r) (xor_comm a (x * 2 ^ k) ∙ xor_shifted x k a h ∙ add_comm (x * 2 ^ k) a)

pub first : (r x : ℕ) → octet_step r x ≡ bit_steps 8 (bit_xor r x)
unfolding octet_step
first r x = refl

four_steps : (r a b c d : ℕ) → a < 256 → b < 256 → c < 256
    → octet_step (octet_step (octet_step (octet_step r a) b) c) d ≡ bit_steps 32 (bit_xor r (a + b * 256 + c * 65536 + d * 16777216))
four_steps r a b c d ha hb hc =
    ap (λ (y : ℕ). octet_step (octet_step y c) d) (ap (λ (y : ℕ). octet_step y b) (first r a) ∙ more 8 (bit_xor r a) b ∙ ap (bit_steps 16) (joined r a 8 b ha))
    ∙ ap (λ (y : ℕ). octet_step y d) (more 16 (bit_xor r (a + b * 256)) c ∙ ap (bit_steps 24) (joined r (a + b * 256) 16 c (omega arith)))
    ∙ more 24 (bit_xor r (a + b * 256 + c * 65536)) d ∙ ap (bit_steps 32) (joined r (a + b * 256 + c * 65536) 24 d (omega arith))

-- a word of four octets put in at once
word_whole : (r : ℕ) (w xs : List ℕ) → length w ≡ 4 → ((k : ℕ) → k < 4 → get_or w k 0 < 256)
    → register_over (bit_steps 32 (bit_xor r (word_at w 0))) xs ≡ register_over r (w ++ xs)
unfolding register_over
word_whole r [] xs e h = cc
word_whole r (a ∷ []) xs e h = cc
word_whole r (a ∷ b ∷ []) xs e h = cc
word_whole r (a ∷ b ∷ c ∷ []) xs e h = cc
word_whole r (a ∷ b ∷ c ∷ d ∷ []) xs e h = ap (λ (y : ℕ). register_over y xs) (sym (four_steps r a b c d (h 0 (omega arith)) (h 1 (omega arith)) (h 2 (omega arith))))
word_whole r (a ∷ b ∷ c ∷ d ∷ x ∷ w) xs e h = cc

-- the i-th of the words that some octets are read in
nth_word : (k i : ℕ) (s : List ℕ) → i < k → get_or (first_chunks 4 k s) i [] ≡ take 4 (drop (i * 4) s)
nth_word zero i s h = absurd (omega arith)
nth_word (suc k) zero s h = refl
nth_word (suc k) (suc i) s h =
    nth_word k i (drop 4 s) (omega arith) ∙ ap (take 4) (drop-drop (i * 4) 4 s ∙ ap (λ (j : ℕ). drop j s) (omega arith))

-- a turn over it
pub word_turn : (s : List ℕ) → ((k : ℕ) → get_or s k 0 < 256) → (r i : ℕ) → i < length s / 4
    → register_over (bit_steps 32 (bit_xor r (word_at (get_or (first_chunks 4 (length s / 4) s) i []) 0))) (drop ((i + 1) * 4) s) ≡ register_over r (drop (i * 4) s)
word_turn s octets r i h =
    let w : List ℕ = take 4 (drop (i * 4) s) in
    let long : length w ≡ 4 = length-take-le 4 (drop (i * 4) s) (let g : 4 ≤ length (drop (i * 4) s) = omega (arith, length-drop (i * 4) s) in g) in
    ap (λ (v : List ℕ). register_over (bit_steps 32 (bit_xor r (word_at v 0))) (drop ((i + 1) * 4) s)) (nth_word (length s / 4) i s h)
    ∙ word_whole r w (drop ((i + 1) * 4) s) long (λ k b. omega (arith, get_or-take 4 (drop (i * 4) s) k 0 b, get_or-drop (i * 4) s k 0, octets (i * 4 + k)))
    ∙ ap (λ (v : List ℕ). register_over r (w ++ v)) (ap (λ (j : ℕ). drop j s) (omega arith) ∙ sym (drop-drop 4 (i * 4) s))
    ∙ ap (register_over r) (take-append-drop 4 (drop (i * 4) s))
