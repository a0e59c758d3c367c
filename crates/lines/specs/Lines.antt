-- The lines that document 01, "Trace and listing", lays down, as octets. Assumes nothing.
use Rattle.std.specs.Prelude.{List, [], ◌∷◌, ◌++◌, ℕ}
use Rattle.text.specs.Text.{blank, line_end, decimal_of}

-- a number behind a blank
abbrev pub next : ℕ → List ℕ
next n = blank ∷ decimal_of n

-- two numbers, each behind a blank, and the end of the line
abbrev pub pair_line : ℕ → ℕ → List ℕ
pair_line a b = next a ++ (next b ++ (line_end ∷ []))

-- "mm 1"
abbrev pub title_line : List ℕ
title_line = 0x6D ∷ 0x6D ∷ blank ∷ 0x31 ∷ line_end ∷ []

-- "per record its number from 1, the answer, a detail"
abbrev pub record_line : ℕ → ℕ → ℕ → List ℕ
record_line number answer detail = decimal_of number ++ pair_line answer detail

-- "stop", the refused record's number, the refusal
abbrev pub stop_line : ℕ → ℕ → List ℕ
stop_line number refusal = (0x73 ∷ 0x74 ∷ 0x6F ∷ 0x70 ∷ []) ++ pair_line number refusal

-- "end" and the four counters
abbrev pub end_line : ℕ → ℕ → ℕ → ℕ → List ℕ
end_line errors delimiters assembled fragments =
    (0x65 ∷ 0x6E ∷ 0x64 ∷ []) ++ (next errors ++ (next delimiters ++ pair_line assembled fragments))
