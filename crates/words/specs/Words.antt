-- What all records share that C sees as words of 32 bits: a flag is 0 or 1, a count has eight bits, and the word at a place.
-- Assumes nothing.
use Rattle.std.specs.Prelude.{Bool, true, false, List, ℕ, eqb, leb, get_or}

-- a flag as a word
abbrev pub flag : Bool → ℕ
flag true = 1
flag false = 0

-- the word at a place
abbrev pub word : List ℕ → ℕ → ℕ
word w i = get_or w i 0

-- whether a word is a flag, and which; whether it fits a count, which has eight bits
abbrev pub is_flag : List ℕ → ℕ → Bool
is_flag w i = leb (word w i) 1

abbrev pub flag_at : List ℕ → ℕ → Bool
flag_at w i = eqb (word w i) 1

abbrev pub is_count : List ℕ → ℕ → Bool
is_count w i = leb (word w i) 255
