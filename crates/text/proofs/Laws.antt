-- Laws of text: pieces put one behind the other, and how long a number is.
-- Assumes nothing.
use mathlib.Core.Path.{◌≡◌, sym, ap, ap₂, ◌∙◌}
use mathlib.Core.Bool.{Bool, true, false, cond}
use mathlib.Core.List.{List, [], ◌∷◌, ◌++◌}
use Prim.Native.Nat.{ℕ, zero, suc, ◌+◌, ◌-◌, ◌*◌, ◌/◌, ◌%◌, ◌^◌, ◌≤◌, ◌<◌}
use native.Mathlib.Nat.{pow-suc, one-le-pow, pow-le-pow_right}
use native.Mathlib.Decide.{dec_lt}
use native.Mathlib.Omega.{arith}
use borrow.Author.Tests.{lt-ltb, le-ltb}
use lib.Dec.{ltb}
use lib.ListN.{length, length-append}
use Rattle.octets.specs.Laid.{laid}
use Rattle.octets.proofs.Laid.{laid_laid}
use Rattle.io.specs.Digits.{hex_digit_ascii, last_digits, IsDigitCount}
use Rattle.text.specs.Text.{zero_digit, digits_of, Put}
use Rattle.text.specs.Pages.{Puts}
use Rattle.text.specs.declared.Page.{Page}

-- a second piece right behind the first
pub put_put : {p q out out' out'' : List ℕ} {at r s : ℕ} → Put p at out r out' → Put q r out' s out'' → s ≤ length out → Put (p ++ q) at out s out''
put_put {p} {q} {out} {out'} {out''} {at} {r} {s} a b h = record {
  place = omega (arith, a.place, b.place, length-append p q);
  octets = b.octets ∙ ap (λ (l : List ℕ). laid l r q) a.octets ∙ laid_laid out p q at r a.place (omega (arith, b.place));
}

-- the same on a page
pub puts_puts : {p q : List ℕ} {a b c : Page} → Puts p a b → Puts q b c → c.at ≤ length a.out.now → Puts (p ++ q) a c
puts_puts f g h = record {
  memory = g.memory ∙ f.memory;
  long = g.long ∙ f.long;
  put = put_put f.put g.put h;
}

-- at most k digits
shorter : (t : Bool) (front : List ℕ) (x k : ℕ) → length front ≤ k → length (cond t [] front ++ (x ∷ [])) ≤ suc k
shorter true front x k h = omega arith
shorter false front x k h = omega (arith, length-append front (x ∷ []))

pub digits_length : (k n : ℕ) → length (digits_of k n) ≤ k
unfolding digits_of
digits_length zero n = omega arith
digits_length (suc k) n = shorter (ltb n 10) (digits_of k (n / 10)) (zero_digit + n % 10) k (digits_length k (n / 10))

-- the library's digits, the fewest that hold a number, are these
glyph_digit : (n : ℕ) → hex_digit_ascii (n % 10) ≡ zero_digit + n % 10
glyph_digit n = simp (lt-ltb (n % 10) 10 (let h : n % 10 < 10 = omega arith in h))

-- the fewest digits of a number below 10 ^ f are f at most
pub fewest_most : (f k n : ℕ) → 1 ≤ f → n < 10 ^ f → IsDigitCount 10 1 n k → k ≤ f
fewest_most f k n h lt e =
    elim (dec_lt f k) [
      | yes over ↦ (let big : 10 ^ f ≤ 10 ^ (k - 1) = pow-le-pow_right (omega arith) (let g : f ≤ k - 1 = omega arith in g) in let z : ⊥ = omega (arith, e.2 (omega arith)) in absurd z)
      | no under ↦ omega arith
    ]

pub fewest_digits : (f k n : ℕ) → k ≤ f → IsDigitCount 10 1 n k → last_digits 10 k n ≡ digits_of f n
unfolding digits_of
fewest_digits f zero n h e = absurd (let z : ⊥ = omega (arith, e.0) in z)
fewest_digits zero (suc k) n h e = absurd (let z : ⊥ = omega arith in z)
fewest_digits (suc f) (suc zero) n h e =
    let one : ltb n 10 ≡ true = lt-ltb n 10 e.1 in
    simp (one, glyph_digit)
fewest_digits (suc f) (suc (suc k)) n h e =
    let p : ℕ = 10 ^ k in
    let some : 1 ≤ p = one-le-pow k 10 (omega arith) in
    let low : 10 ^ suc k ≤ n = rw (let g : suc (suc k) - 1 ≡ suc k = omega arith in g) at (e.2 (omega arith)) in
    let low' : p * 10 ≤ n = rw (pow-suc 10 k) at low in
    let high' : n < 10 ^ suc k * 10 = rw (pow-suc 10 (suc k)) at e.1 in
    let many : ltb n 10 ≡ false = le-ltb n 10 (omega arith) in
    let front : last_digits 10 (suc k) (n / 10) ≡ digits_of f (n / 10) =
    fewest_digits f (suc k) (n / 10) (omega arith) (omega arith, let g : n / 10 < 10 ^ suc k = omega arith in g, λ b. rw (let g : suc k - 1 ≡ k = omega arith in g) (let g : p ≤ n / 10 = omega arith in g)) in
    ap₂ (λ (l : List ℕ) (x : ℕ). l ++ (x ∷ [])) front (glyph_digit n)
    ∙ sym (ap (λ (t : Bool). cond t [] (digits_of f (n / 10)) ++ ((zero_digit + n % 10) ∷ [])) many)
