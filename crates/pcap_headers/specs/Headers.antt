-- Contents laid out as a capture file (document 02, (vii)): "Write little-endian with times and the other header fields 0". Assumes nothing.
use Rattle.std.specs.Prelude.{List, [], ◌∷◌, ◌++◌, ℕ, length}
use Rattle.fours.specs.Word.{octets_of}
use Rattle.trace.specs.Trace.{limit}
use Rattle.trace_layout.specs.Layout.{two_octets}
use Rattle.pcap_records.specs.Records.{magic, major, minor, link_type}

-- "version 2.4, link type 274 .., magic A1B2C3D4, snap length 1,600"; time zone and accuracy 0
abbrev pub file_header : List ℕ
file_header = octets_of magic ++ two_octets major ++ two_octets minor ++ octets_of 0 ++ octets_of 0 ++ octets_of limit ++ octets_of link_type

-- seconds and microseconds 0, stored and original length the same
abbrev pub capture_header : ℕ → List ℕ
capture_header n = octets_of 0 ++ octets_of 0 ++ octets_of n ++ octets_of n

abbrev pub capture_record : List ℕ → List ℕ
capture_record c = capture_header (length c) ++ c

-- records, one behind the other
unfoldable pub capture_records : List (List ℕ) → List ℕ
capture_records [] = []
capture_records (c ∷ cs) = capture_record c ++ capture_records cs

abbrev pub capture_of : List (List ℕ) → List ℕ
capture_of cs = file_header ++ capture_records cs
