-- Reading the house trace of document 01, "Trace and listing": the record at a place, the end, or a refusal.
-- Assumes nothing.
use Rattle.std.specs.Prelude.{cond, not, List, ℕ, ◌+◌, ◌-◌, ◌*◌, ltb, eqb, length, get_or, Option, Some, None, Result, Ok, Err}
use Rattle.trace.specs.declared.Span.{Span}
use Rattle.trace.specs.declared.Cursor.{Cursor}
use Rattle.trace.specs.declared.Refusal.{Refusal}
use Rattle.trace.specs.declared.Refusal.TheVariants.{Header, Length, Kind, Content}

-- the octets of a header
abbrev pub header : ℕ
header = 4

-- "length over 1,600"
abbrev pub limit : ℕ
limit = 1600

-- "Kind 1 is an mFrame as received"
abbrev pub kind : ℕ
kind = 1

-- the front of a trace
abbrev pub front : Cursor
front = record { at = 0 }

-- what reading says, in the paper's terms: a record, by the place and the length of its content and the place of the next record; the end;
-- a refusal, by its number
pub data Said : Type 0 where
  found : ℕ → ℕ → ℕ → Said
  ended : Said
  refused : ℕ → Said

-- "Refusals in order: 50 header cut, 51 length over 1,600, 52 kind not 1, 53 content cut"
abbrev pub refusal_number : Refusal → ℕ
refusal_number Header = 50
refusal_number Length = 51
refusal_number Kind = 52
refusal_number Content = 53

abbrev pub said : Result (Option Span) Refusal → Said
said (Ok (Some p)) = found p.start p.length p.next
said (Ok None) = ended
said (Err q) = refused (refusal_number q)

-- "2 octets, little-endian"
abbrev pub little_endian : ℕ → ℕ → ℕ
little_endian low high = low + 256 * high

-- "length of its content (2 octets, little-endian), kind (2, little-endian), content"
abbrev pub length_at : List ℕ → ℕ → ℕ
length_at s at = little_endian (get_or s at 0) (get_or s (at + 1) 0)

abbrev pub kind_at : List ℕ → ℕ → ℕ
kind_at s at = little_endian (get_or s (at + 2) 0) (get_or s (at + 3) 0)

-- the octets left from a place on: none at the end and beyond it
abbrev pub left : List ℕ → ℕ → ℕ
left s at = length s - at

-- what stands at a place: nothing at the end; else a refusal, the first that applies; else a record
unfoldable pub read_at : List ℕ → ℕ → Said
read_at s at =
    cond (eqb (left s at) 0) ended
    (cond (ltb (left s at) header) (refused 50)
    (cond (ltb limit (length_at s at)) (refused 51)
    (cond (not (eqb (kind_at s at) kind)) (refused 52)
    (cond (ltb (left s (at + header)) (length_at s at)) (refused 53)
    (found (at + header) (length_at s at) (at + header + length_at s at))))))
