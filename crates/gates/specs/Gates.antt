-- The three calls on the hall's schedule (document 02, (i)): a list read, written back, and its events. Each judges the whole list first, then
-- its lent output: "A refusal writes nothing". Assumes nothing.
use Rattle.std.specs.Prelude.{◌≡◌, cond, List, [], ℕ, ltb, length, Result, Ok, Err}
use Rattle.octets.specs.Laid.{over}
use Rattle.gate_entries.specs.Entries.{Entry}
use Rattle.gate_lists.specs.Lists.{Said, good, refused, short, of_octets, of_entries, entries_from, octets_of_all}
use Rattle.gate_lists.specs.declared.Error.{Error}
use Rattle.gate_events.specs.Events.{Event, sum_of, events_from}
use Rattle.gate_events.specs.declared.Total.{Total}

-- what is answered, and what then stands at the output's front
pub record Outcome (A : Type 0) : Type 0 where
  pub answer : Said
  pub output : List A

-- a list that was judged so, and what is to be written of it into a room of so many: "then 64, lent output too short"
abbrev pub outcome : {A : Type 0} → Said → List A → ℕ → Outcome A
outcome (good n) xs room =
    cond (ltb room (length xs)) (record { answer = short (length xs); output = [] }) (record { answer = good (length xs); output = xs })
outcome (refused q k) xs room = record { answer = refused q k; output = [] }
outcome (short n) xs room = record { answer = short n; output = [] }

-- the entries of a list that was judged so: none where it is refused
abbrev pub entries_in : Said → List ℕ → List Entry
entries_in (good n) s = entries_from n s 0
entries_in (refused q k) s = []
entries_in (short n) s = []

abbrev pub entries_of : List ℕ → List Entry
entries_of s = entries_in (of_octets s) s

-- "Read such a list"
abbrev pub read_of : List ℕ → ℕ → Outcome Entry
read_of s room = outcome (of_octets s) (entries_of s) room

-- "write one back"
abbrev pub write_of : List Entry → ℕ → Outcome ℕ
write_of es room = outcome (of_entries es) (octets_of_all es) room

-- "list an event for each operation 1 or 2"
abbrev pub events_of : List ℕ → ℕ → Outcome Event
events_of s room = outcome (of_octets s) (events_from 0 (entries_of s)) room

-- the length of the cycle, the sum of all intervals; 0 where nothing is listed
abbrev pub cycle_of : Said → List ℕ → ℕ
cycle_of (good n) s = sum_of (entries_of s)
cycle_of (refused q k) s = 0
cycle_of (short n) s = 0

-- the promise of each call: its answer, and all of the output, which was out and is out'
pub record Met {A : Type 0} (p : Outcome A) (out : List A) (a : Said) (out' : List A) : Type 0 where
  pub answer : a ≡ p.answer
  pub output : out' ≡ over p.output out

-- what listing answers: how many events, as the other calls answer how many they wrote; and the length of the cycle, 0 where nothing is listed
abbrev pub counted : Result Total Error → Result ℕ Error
counted (Ok t) = Ok t.events
counted (Err e) = Err e

abbrev pub told_cycle : Result Total Error → ℕ
told_cycle (Ok t) = t.cycle
told_cycle (Err e) = 0
