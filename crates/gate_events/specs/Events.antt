-- The events of a gate control list (document 02, (i)): "an event for each operation 1 or 2 with the 64-bit sum of all intervals before it".
-- Assumes nothing.
use Rattle.std.specs.Prelude.{cond, List, [], ◌∷◌, ◌++◌, ℕ, ◌+◌, eqb, get_or}
use Rattle.gate_entries.specs.Entries.{Entry, operation, interval}

-- the sum of the intervals of entries
unfoldable pub sum_of : List Entry → ℕ
sum_of [] = 0
sum_of (e ∷ es) = interval e + sum_of es

-- an event as it is listed: its time in nanoseconds, and the operation, 1 hold or 2 release
abbrev pub Event : Type 0
Event = List ℕ

abbrev pub event : ℕ → ℕ → Event
event time o = time ∷ o ∷ []

abbrev pub time_of : Event → ℕ
time_of v = get_or v 0 0

abbrev pub operation_of : Event → ℕ
operation_of v = get_or v 1 0

-- the event of an operation at a time, where it has one: 1 and 2 have, and no accepted list has another beside 0
unfoldable pub event_at : ℕ → ℕ → List Event
event_at time o = cond (eqb o 0) [] (event time o ∷ [])

-- the events of entries, of which the first begins at a time
unfoldable pub events_from : ℕ → List Entry → List Event
events_from time [] = []
events_from time (e ∷ es) = event_at time (operation e) ++ events_from (time + interval e) es
