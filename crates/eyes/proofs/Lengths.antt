-- A capture for eyes is as long as the plain one, and is answered alike.
-- Assumes nothing.
use mathlib.Core.Path.{◌≡◌, refl, sym, ap, ap₂, ◌∙◌}
use mathlib.Core.List.{List, [], ◌∷◌}
use Prim.Native.Nat.{ℕ, ◌+◌}
use native.Mathlib.Omega.{arith}
use lib.ListN.{length, length-append}
use Rattle.std.specs.Prelude.{Err}
use Rattle.trace_layout.specs.Layout.{read_all}
use Rattle.pcap_headers.specs.Headers.{file_header, capture_record, capture_records, capture_of}
use Rattle.pcap_headers.proofs.Lengths.{length_record}
use Rattle.pcap_lists.specs.Lists.{said, judged}
use Rattle.pcap_lists.specs.declared.Error.{Error}
use Rattle.pcap.specs.Captures.{Met, write_of}
use Rattle.pcap.proofs.Laws.{met_unwritten, by_length}
use Rattle.receiver_record.specs.declared.Record.{Record}
use Rattle.receiver_record.specs.Records.{fresh}
use Rattle.receive.specs.Receive.{received_of}
use Rattle.eyes_records.specs.Shown.{shown_of}
use Rattle.eyes_records.proofs.Laws.{shown_length}
use Rattle.eyes.specs.Eyes.{buffer_length, shown_from, shown_in, eyes_of}

record_length : (c : List ℕ) (r : Record) → length (capture_record (shown_of c r buffer_length)) ≡ length (capture_record c)
record_length c r = length_record (shown_of c r buffer_length) ∙ ap (λ (n : ℕ). 16 + n) (shown_length c r buffer_length) ∙ sym (length_record c)

records_length : (r : Record) (cs : List (List ℕ)) → length (capture_records (shown_from r cs)) ≡ length (capture_records cs)
unfolding capture_records shown_from
records_length r [] = refl
records_length r (c ∷ cs) =
    length-append (capture_record (shown_of c r buffer_length)) _ ∙ ap₂ ◌+◌ (record_length c r) (records_length (received_of c r buffer_length).after cs) ∙ sym (length-append (capture_record c) (capture_records cs))

pub same_length : (s : List ℕ) → length (capture_of (shown_in s)) ≡ length (capture_of (read_all s).contents)
same_length s =
    let rest = records_length fresh (read_all s).contents in
    omega (arith, rest, length-append file_header (capture_records (shown_in s)), length-append file_header (capture_records (read_all s).contents))

-- "refusals as for writing a capture", and the same number of octets written
pub same_answer : (s : List ℕ) (room : ℕ) → (write_of s room).answer ≡ (eyes_of s room).answer
same_answer s room = by_length (judged (read_all s)) (capture_of (read_all s).contents) (capture_of (shown_in s)) room (let e = same_length s in omega arith)

-- so where the plain one is refused, nothing is written
pub unwritten : (x : Error) (s out : List ℕ) → said (Err x) ≡ (write_of s (length out)).answer → Met (eyes_of s (length out)) out (said (Err x)) out
unwritten x s out e = met_unwritten (capture_of (shown_in s)) out (length out) x (judged (read_all s)) (e ∙ same_answer s (length out))
