-- Reading a capture file (document 02, (vii)): its header, and the record at a place, the end or a refusal. Assumes nothing.
use Rattle.std.specs.Prelude.{Bool, cond, not, ◌&&◌, List, ℕ, ◌+◌, ltb, eqb, length, Option, Some, None, Result, Ok, Err}
use Rattle.trace.specs.Trace.{Said, found, ended, refused, limit, left}
use Rattle.trace.specs.declared.Span.{Span}
use Rattle.pcap_fields.specs.Fields.{half_in, word_in}
use Rattle.pcap_fields.specs.declared.Order.{Order}
use Rattle.pcap_fields.specs.declared.Order.TheVariants.{Little, Big}
use Rattle.pcap_records.specs.declared.Refusal.{Refusal}
use Rattle.pcap_records.specs.declared.Refusal.TheVariants.{FileHeader, Magic, Version, LinkType, Header, Length, Original, Content}

-- the octets of the file's header, and of a record's
abbrev pub file_header : ℕ
file_header = 24

abbrev pub header : ℕ
header = 16

-- "version 2.4, link type 274 (Ethernet mPackets, from the preamble on), magic A1B2C3D4"
abbrev pub magic : ℕ
magic = 0xA1B2C3D4

abbrev pub major : ℕ
major = 2

abbrev pub minor : ℕ
minor = 4

abbrev pub link_type : ℕ
link_type = 274

-- "70 file header cut, 71 magic, 72 version, 73 link type, 74 record header cut, 75 stored length over 1,600, 76 stored and original length
-- differ, 77 content cut, in that order"
abbrev pub refusal_number : Refusal → ℕ
refusal_number FileHeader = 70
refusal_number Magic = 71
refusal_number Version = 72
refusal_number LinkType = 73
refusal_number Header = 74
refusal_number Length = 75
refusal_number Original = 76
refusal_number Content = 77

-- what the file's header says: the order of all fields, or a refusal by its number
pub data Opening : Type 0 where
  opens : Order → Opening
  shut : ℕ → Opening

abbrev pub opening : Result Order Refusal → Opening
opening (Ok o) = opens o
opening (Err q) = shut (refusal_number q)

-- magic (4 octets), version (2 and 2), time zone and accuracy (4 each, ignored), snap length (4, ignored), link type (4)
abbrev pub version_fits : Order → List ℕ → Bool
version_fits o s = eqb (half_in o s 4) major && eqb (half_in o s 6) minor

abbrev pub fields_of : Order → List ℕ → Opening
fields_of o s = cond (not (version_fits o s)) (shut 72) (cond (not (eqb (word_in o s 20) link_type)) (shut 73) (opens o))

-- "read both byte orders": the magic tells which
unfoldable pub open_of : List ℕ → Opening
open_of s =
    cond (ltb (length s) file_header) (shut 70)
    (cond (eqb (word_in Little s 0) magic) (fields_of Little s)
    (cond (eqb (word_in Big s 0) magic) (fields_of Big s)
    (shut 71)))

-- what reading a record says, in the terms of a trace's: by the place and the length of its content and the place of the next record
abbrev pub said : Result (Option Span) Refusal → Said
said (Ok (Some p)) = found p.start p.length p.next
said (Ok None) = ended
said (Err q) = refused (refusal_number q)

-- seconds and microseconds (4 octets each, ignored), stored and original length (4 each), content
abbrev pub stored_at : Order → List ℕ → ℕ → ℕ
stored_at o s at = word_in o s (at + 8)

abbrev pub original_at : Order → List ℕ → ℕ → ℕ
original_at o s at = word_in o s (at + 12)

-- what stands at a place: nothing at the end; else a refusal, the first that applies; else a record
unfoldable pub record_at : Order → List ℕ → ℕ → Said
record_at o s at =
    cond (eqb (left s at) 0) ended
    (cond (ltb (left s at) header) (refused 74)
    (cond (ltb limit (stored_at o s at)) (refused 75)
    (cond (not (eqb (stored_at o s at) (original_at o s at))) (refused 76)
    (cond (ltb (left s (at + header)) (stored_at o s at)) (refused 77)
    (found (at + header) (stored_at o s at) (at + header + stored_at o s at))))))
