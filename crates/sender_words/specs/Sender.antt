-- The sending record as words of 32 bits.
-- Assumes nothing.
use Rattle.std.specs.Prelude.{Bool, ◌&&◌, List, [], ◌∷◌, ℕ}
use Rattle.codes.specs.Codes.{frame, fragment}
use Rattle.sender_record.specs.declared.Record.{Record}
use Rattle.words.specs.Words.{flag, word, is_flag, flag_at, is_count}

-- the sending record in seven words
abbrev pub sender_words : Record → List ℕ
sender_words r =
    flag r.active ∷ flag r.hold ∷ r.extra ∷ r.next.0 ∷ r.length ∷ r.sent ∷ r.fragment.0 ∷ []

-- whether seven words are a record's, and the record that they then are
unfoldable pub sender_fits : List ℕ → Bool
sender_fits w = is_flag w 0 && (is_flag w 1 && (is_count w 2 && (is_count w 3 && is_count w 6)))

abbrev pub sender_of : List ℕ → Record
sender_of w = record {
  active = flag_at w 0;
  hold = flag_at w 1;
  extra = word w 2;
  next = frame (word w 3);
  length = word w 4;
  sent = word w 5;
  fragment = fragment (word w 6);
}
