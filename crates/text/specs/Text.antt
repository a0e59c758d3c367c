-- Text as octets: decimal numbers, and what a call that puts text into lent memory promises. Assumes nothing.
use Rattle.std.specs.Prelude.{◌≡◌, cond, List, [], ◌∷◌, ◌++◌, ℕ, zero, suc, ◌+◌, ◌/◌, ◌%◌, ltb, length}
use Rattle.octets.specs.Laid.{laid}

-- the octets of a blank, of the end of a line and of the digit 0
abbrev pub blank : ℕ
blank = 0x20

abbrev pub line_end : ℕ
line_end = 0x0A

abbrev pub zero_digit : ℕ
zero_digit = 0x30

-- a number of at most k decimal digits: the last one behind those of its tenth part, where that is not 0
unfoldable pub digits_of : ℕ → ℕ → List ℕ
digits_of zero n = []
digits_of (suc k) n = let front = digits_of k (n / 10) in cond (ltb n 10) [] front ++ ((zero_digit + n % 10) ∷ [])

-- a number of 64 bits, in decimal with no digit too many
abbrev pub decimal_of : ℕ → List ℕ
decimal_of n = digits_of 20 n

-- the text p stands in the memory from place at on, all else is kept, and r is the place behind it
pub record Put (p : List ℕ) (at : ℕ) (out : List ℕ) (r : ℕ) (out' : List ℕ) : Type 0 where
  pub place : r ≡ at + length p
  pub octets : out' ≡ laid out at p
