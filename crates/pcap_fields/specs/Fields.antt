-- Numbers in a capture file, in either byte order. Assumes nothing.
use Rattle.std.specs.Prelude.{List, ℕ, ◌+◌, get_or}
use Rattle.fours.specs.Word.{word_of}
use Rattle.pcap_fields.specs.declared.Order.{Order}
use Rattle.pcap_fields.specs.declared.Order.TheVariants.{Little, Big}

-- the number in the two octets from a place on
abbrev pub half_in : Order → List ℕ → ℕ → ℕ
half_in Little s i = word_of (get_or s i 0) (get_or s (i + 1) 0) 0 0
half_in Big s i = word_of (get_or s (i + 1) 0) (get_or s i 0) 0 0

-- the number in the four octets from a place on
abbrev pub word_in : Order → List ℕ → ℕ → ℕ
word_in Little s i = word_of (get_or s i 0) (get_or s (i + 1) 0) (get_or s (i + 2) 0) (get_or s (i + 3) 0)
word_in Big s i = word_of (get_or s (i + 3) 0) (get_or s (i + 2) 0) (get_or s (i + 1) 0) (get_or s i 0)
