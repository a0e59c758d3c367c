-- Whether a trace or a capture is accepted (document 02, (vii)): record by record. Assumes nothing.
use Rattle.std.specs.Prelude.{List, ℕ, ◌+◌, length, Option, Some, None, Result, Ok, Err}
use Rattle.trace.specs.Trace as trace
use Rattle.trace.specs.declared.Span.{Span}
use Rattle.trace_layout.specs.Layout.{Listing, rest_from}
use Rattle.pcap_fields.specs.declared.Order.{Order}
use Rattle.pcap_records.specs.Records as capture
use Rattle.pcap_lists.specs.declared.Why.{Why}
use Rattle.pcap_lists.specs.declared.Why.TheVariants as W
use Rattle.pcap_lists.specs.declared.Error.{Error}
use Rattle.pcap_lists.specs.declared.Error.TheVariants.{Refused, Short}

-- what is said of a trace or a capture: good, with a number of records, or of octets written; refused, by number, with the record's own number,
-- the first being 1; or the output is short of the room for so many octets
pub data Said : Type 0 where
  good : ℕ → Said
  refused : ℕ → ℕ → Said
  short : ℕ → Said

abbrev pub why_number : Why → ℕ
why_number (W.Trace why) = trace.refusal_number why
why_number (W.Capture why) = capture.refusal_number why

abbrev pub said : Result ℕ Error → Said
said (Ok n) = good n
said (Err (Refused why k)) = refused (why_number why) k
said (Err (Short n)) = short n

-- what reading a record of either says
abbrev pub read_said : Result (Option Span) Why → trace.Said
read_said (Ok (Some p)) = trace.found p.start p.length p.next
read_said (Ok None) = trace.ended
read_said (Err why) = trace.refused (why_number why)

-- an answer in the paper's numbers, "78, lent output too short, last", 0 where there is no refusal; and the number that goes with it
abbrev pub number_of : Said → ℕ
number_of (good n) = 0
number_of (refused q k) = q
number_of (short n) = 78

abbrev pub value_of : Said → ℕ
value_of (good n) = n
value_of (refused q k) = k
value_of (short n) = n

-- what stopped the reading behind n records: the end, or the refusal of the next one; a record that is found never does (`rest_stops`)
abbrev pub behind : ℕ → trace.Said → Said
behind n (trace.found place k next) = good n
behind n trace.ended = good n
behind n (trace.refused q) = refused q (n + 1)

-- what is said where k records stand before those that were read
abbrev pub judged_from : ℕ → Listing → Said
judged_from k l = behind (k + length l.contents) l.stop

abbrev pub judged : Listing → Said
judged l = judged_from 0 l

-- the records of a capture whose fields are in this order
abbrev pub records_in : Order → List ℕ → Listing
records_in o s = rest_from (capture.record_at o s) s capture.file_header
