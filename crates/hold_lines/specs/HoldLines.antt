-- What mmholds lists, as octets: a line for each event, "for each operation 1 or 2 with the 64-bit sum of all intervals before it" (document 02,
-- (i)), and a last one for the length of the cycle. Assumes nothing.
use Rattle.std.specs.Prelude.{cond, List, [], ◌∷◌, ◌++◌, ℕ, eqb, get_or}
use Rattle.text.specs.Text.{blank, line_end, decimal_of}

-- "hold" and "release", each behind a blank, and the end of the line
abbrev pub hold_word : List ℕ
hold_word = blank ∷ 0x68 ∷ 0x6F ∷ 0x6C ∷ 0x64 ∷ line_end ∷ []

abbrev pub release_word : List ℕ
release_word = blank ∷ 0x72 ∷ 0x65 ∷ 0x6C ∷ 0x65 ∷ 0x61 ∷ 0x73 ∷ 0x65 ∷ line_end ∷ []

-- "1 set and hold, 2 set and release": no event has another operation
unfoldable pub word_line : ℕ → List ℕ
word_line operation = cond (eqb operation 1) hold_word release_word

-- an event: its time, and what happens
abbrev pub event_line : ℕ → ℕ → List ℕ
event_line time operation = decimal_of time ++ word_line operation

-- events one behind the other, each a row of time and operation
unfoldable pub event_lines : List (List ℕ) → List ℕ
event_lines [] = []
event_lines (e ∷ es) = event_line (get_or e 0 0) (get_or e 1 0) ++ event_lines es

-- "cycle" and its length
abbrev pub cycle_line : ℕ → List ℕ
cycle_line cycle = (0x63 ∷ 0x79 ∷ 0x63 ∷ 0x6C ∷ 0x65 ∷ blank ∷ []) ++ (decimal_of cycle ++ (line_end ∷ []))

-- all events, then the cycle
abbrev pub all_lines : List (List ℕ) → ℕ → List ℕ
all_lines events cycle = event_lines events ++ cycle_line cycle
