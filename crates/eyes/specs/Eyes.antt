-- The capture for eyes of a trace: the capture of document 02, (vii), each mCRC that is right by document 01 replaced by the standard's.
-- Assumes nothing.
use Rattle.std.specs.Prelude.{List, [], ◌∷◌, ℕ}
use Rattle.trace_layout.specs.Layout.{read_all}
use Rattle.pcap_headers.specs.Headers.{capture_of}
use Rattle.pcap_lists.specs.Lists.{judged}
use Rattle.pcap.specs.Captures.{Outcome, outcome}
use Rattle.receiver_record.specs.declared.Record.{Record}
use Rattle.receiver_record.specs.Records.{fresh}
use Rattle.receive.specs.Receive.{received_of}
use Rattle.eyes_records.specs.Shown.{shown_of}

-- the receiver's buffer: as long as document 01 asks for
abbrev pub buffer_length : ℕ
buffer_length = 1518

-- contents as they are shown, one after the other, by a receiver with the record r
unfoldable pub shown_from : Record → List (List ℕ) → List (List ℕ)
shown_from r [] = []
shown_from r (c ∷ cs) = shown_of c r buffer_length ∷ shown_from (received_of c r buffer_length).after cs

-- all of a trace's, by a fresh one
abbrev pub shown_in : List ℕ → List (List ℕ)
shown_in s = shown_from fresh (read_all s).contents

-- the call: "refusals as for writing a capture"
abbrev pub eyes_of : List ℕ → ℕ → Outcome
eyes_of s room = outcome (judged (read_all s)) (capture_of (shown_in s)) room
