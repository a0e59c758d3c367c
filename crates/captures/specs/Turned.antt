-- A capture file in the other byte order: the octets of each field the other way round, all contents as they are. Assumes nothing.
use Rattle.std.specs.Prelude.{cond, List, [], ◌∷◌, ◌++◌, ℕ, zero, suc, ◌+◌, ltb, eqb, length, take, drop, get_or}
use Rattle.trace.specs.Trace.{left}
use Rattle.pcap_fields.specs.Fields.{word_in}
use Rattle.pcap_fields.specs.declared.Order.{Order}
use Rattle.pcap_fields.specs.declared.Order.TheVariants.{Little, Big}
use Rattle.pcap_records.specs.Records.{file_header, header, magic, stored_at}

abbrev pub other : Order → Order
other Little = Big
other Big = Little

-- a field of two octets, and one of four
abbrev pub half_turned : List ℕ → ℕ → List ℕ
half_turned s i = get_or s (i + 1) 0 ∷ get_or s i 0 ∷ []

abbrev pub word_turned : List ℕ → ℕ → List ℕ
word_turned s i = get_or s (i + 3) 0 ∷ get_or s (i + 2) 0 ∷ get_or s (i + 1) 0 ∷ get_or s i 0 ∷ []

-- magic, version (two fields), time zone, accuracy, snap length, link type
abbrev pub file_header_turned : List ℕ → List ℕ
file_header_turned s = word_turned s 0 ++ half_turned s 4 ++ half_turned s 6 ++ word_turned s 8 ++ word_turned s 12 ++ word_turned s 16 ++ word_turned s 20

-- seconds, microseconds, stored and original length
abbrev pub header_turned : List ℕ → ℕ → List ℕ
header_turned s at = word_turned s at ++ word_turned s (at + 4) ++ word_turned s (at + 8) ++ word_turned s (at + 12)

-- the records from a place on, m at most, of a file whose fields are in this order; what is no whole header stays as it is
unfoldable pub records_turned : ℕ → Order → List ℕ → ℕ → List ℕ
records_turned zero o s at = drop at s
records_turned (suc m) o s at =
    cond (ltb (left s at) header) (drop at s)
    (header_turned s at ++ (take (stored_at o s at) (drop (at + header) s) ++ records_turned m o s (at + header + stored_at o s at)))

-- the order that a file is in, if it is a capture at all
abbrev pub order_of : List ℕ → Order
order_of s = cond (eqb (word_in Little s 0) magic) Little Big

-- a file that has no whole header stays as it is
abbrev pub turned : List ℕ → List ℕ
turned s = cond (ltb (length s) file_header) s (file_header_turned s ++ records_turned (length s) (order_of s) s file_header)
