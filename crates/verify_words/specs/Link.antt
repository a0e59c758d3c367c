-- The verification record, which C calls a link, as words of 32 bits.
-- Assumes nothing.
use Rattle.std.specs.Prelude.{Bool, ◌&&◌, List, [], ◌∷◌, ℕ, leb}
use Rattle.verify_record.specs.Phases.{phase_number, phase_of}
use Rattle.verify_record.specs.declared.Record.{Record}
use Rattle.words.specs.Words.{flag, word, is_flag, flag_at, is_count}

-- the verification record in five words
abbrev pub link_words : Record → List ℕ
link_words r = phase_number r.phase ∷ r.attempt ∷ r.left ∷ flag r.owed ∷ r.wait ∷ []

-- whether five words are a record's, and the record that they then are
unfoldable pub link_fits : List ℕ → Bool
link_fits w = leb (word w 0) 3 && (is_count w 1 && (is_count w 2 && (is_flag w 3 && is_count w 4)))

abbrev pub link_of : List ℕ → Record
link_of w = record { phase = phase_of (word w 0); attempt = word w 1; left = word w 2; owed = flag_at w 3; wait = word w 4 }
