-- The two calls on captures (document 02, (vii)): a capture from a trace, and back. Each judges all that it is given first, then its lent
-- output: "A refusal writes nothing". Assumes nothing.
use Rattle.std.specs.Prelude.{◌≡◌, cond, List, [], ℕ, ◌-◌, ◌^◌, ◌≤◌, ltb, length, Option, Some, None}
use Rattle.octets.specs.Laid.{over}
use Rattle.trace_layout.specs.Layout.{trace_of, read_all}
use Rattle.pcap_headers.specs.Headers.{capture_of}
use Rattle.pcap_lists.specs.Lists.{Said, good, refused, short, judged, records_in}
use Rattle.pcap_records.specs.Records.{Opening, opens, shut, open_of}

-- the numbers that there are: 64 bits
abbrev pub numbers : ℕ
numbers = 2 ^ 64

-- a length, or the greatest number where it is more
abbrev pub told : ℕ → ℕ
told n = cond (ltb n numbers) n (numbers - 1)

-- what is answered, and what then stands at the output's front
pub record Outcome : Type 0 where
  pub answer : Said
  pub output : List ℕ

-- what was judged so, and what is to be written of it into a room of so many: "78, lent output too short, last"
abbrev pub outcome : Said → List ℕ → ℕ → Outcome
outcome (good n) xs room =
    cond (ltb room (length xs)) (record { answer = short (told (length xs)); output = [] }) (record { answer = good (length xs); output = xs })
outcome (refused q k) xs room = record { answer = refused q k; output = [] }
outcome (short n) xs room = record { answer = short n; output = [] }

-- "Write a pcap file from a trace"
abbrev pub write_of : List ℕ → ℕ → Outcome
write_of s room = outcome (judged (read_all s)) (capture_of (read_all s).contents) room

-- "and read one back": in the order that its header tells, or refused for that header, of which no record is told
abbrev pub read_in : Opening → List ℕ → ℕ → Outcome
read_in (opens o) s room = outcome (judged (records_in o s)) (trace_of (records_in o s).contents) room
read_in (shut q) s room = record { answer = refused q 0; output = [] }

abbrev pub read_of : List ℕ → ℕ → Outcome
read_of s room = read_in (open_of s) s room

-- the promise of each call: its answer, and all of the output, which was out and is out'
pub record Met (p : Outcome) (out : List ℕ) (a : Said) (out' : List ℕ) : Type 0 where
  pub answer : a ≡ p.answer
  pub output : out' ≡ over p.output out

-- how many octets a capture has, as far as a number can tell it
abbrev pub Tells : Option ℕ → ℕ → Type 0
Tells (Some n) m = n ≡ m
Tells None m = numbers ≤ m
