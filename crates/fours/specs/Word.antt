-- Four octets as one number, the first octet lowest, and back.
-- Assumes nothing.
use Rattle.std.specs.Prelude.{List, [], ◌∷◌, ℕ, ◌+◌, ◌*◌, ◌/◌, ◌%◌, get_or}

-- the number that four octets make
abbrev pub word_of : ℕ → ℕ → ℕ → ℕ → ℕ
word_of a b c d = a + b * 256 + c * 65536 + d * 16777216

-- the number that the four octets from a place on make
abbrev pub word_at : List ℕ → ℕ → ℕ
word_at s i = word_of (get_or s i 0) (get_or s (i + 1) 0) (get_or s (i + 2) 0) (get_or s (i + 3) 0)

-- the four octets of a number, low octet first
unfoldable pub octets_of : ℕ → List ℕ
octets_of w = w % 256 ∷ w / 256 % 256 ∷ w / 65536 % 256 ∷ w / 16777216 % 256 ∷ []
