-- The two counts and the table of codes, as document 01, "Octets of an mFrame", lays them down.
-- Assumes nothing.
use Rattle.std.specs.Prelude.{List, [], ◌∷◌, ℕ, ◌+◌, ◌%◌, get_or}
use Rattle.codes.specs.declared.FrameCount.{FrameCount}
use Rattle.codes.specs.declared.FragmentCount.{FragmentCount}

-- the counts, by their numbers
abbrev pub frame : ℕ → FrameCount
frame n = record { 0 = n }

abbrev pub fragment : ℕ → FragmentCount
fragment n = record { 0 = n }

-- "The frame count goes 0, 1, 2, 3, 0"; the fragment count is "up by one modulo 4"
abbrev pub next_frame : FrameCount → FrameCount
next_frame n = frame ((n.0 + 1) % 4)

abbrev pub last_frame : FrameCount → FrameCount
last_frame n = frame ((n.0 + 3) % 4)

abbrev pub next_fragment : FragmentCount → FragmentCount
next_fragment n = fragment ((n.0 + 1) % 4)

-- the codes of the table: E, S0 to S3, C0 to C3, V, R
abbrev pub express_code : ℕ
express_code = 0xD5

abbrev pub start_codes : List ℕ
start_codes = 0xE6 ∷ 0x4C ∷ 0x7F ∷ 0xB3 ∷ []

abbrev pub continuation_codes : List ℕ
continuation_codes = 0x61 ∷ 0x52 ∷ 0x9E ∷ 0x2A ∷ []

abbrev pub verify_code : ℕ
verify_code = 0x07

abbrev pub respond_code : ℕ
respond_code = 0x19

-- "a fragment code at place 7: E6, 4C, 7F, B3 for 0 to 3"
abbrev pub fragment_codes : List ℕ
fragment_codes = 0xE6 ∷ 0x4C ∷ 0x7F ∷ 0xB3 ∷ []

-- the codes that say a count
abbrev pub start_code : FrameCount → ℕ
start_code n = get_or start_codes (n.0 % 4) 0

abbrev pub continuation_code : FrameCount → ℕ
continuation_code n = get_or continuation_codes (n.0 % 4) 0

abbrev pub fragment_code : FragmentCount → ℕ
fragment_code n = get_or fragment_codes (n.0 % 4) 0
