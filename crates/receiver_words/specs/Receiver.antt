-- The receiving record as words of 32 bits.
-- Assumes nothing.
use Rattle.std.specs.Prelude.{Bool, ◌&&◌, List, [], ◌∷◌, ℕ}
use Rattle.codes.specs.Codes.{frame, fragment}
use Rattle.receiver_record.specs.declared.Record.{Record}
use Rattle.words.specs.Words.{flag, word, is_flag, flag_at, is_count}

-- the receiving record in nine words, the four counters last
abbrev pub receiver_words : Record → List ℕ
receiver_words r =
    flag r.assembling
    ∷ r.frame.0
    ∷ r.fragment.0
    ∷ r.kept
    ∷ r.running
    ∷ r.counters.errors
    ∷ r.counters.delimiters
    ∷ r.counters.assembled
    ∷ r.counters.fragments
    ∷ []

-- whether nine words are a record's, and the record that they then are
unfoldable pub receiver_fits : List ℕ → Bool
receiver_fits w = is_flag w 0 && (is_count w 1 && is_count w 2)

abbrev pub receiver_of : List ℕ → Record
receiver_of w = record {
  assembling = flag_at w 0;
  frame = frame (word w 1);
  fragment = fragment (word w 2);
  kept = word w 3;
  running = word w 4;
  counters = record { errors = word w 5; delimiters = word w 6; assembled = word w 7; fragments = word w 8 };
}
