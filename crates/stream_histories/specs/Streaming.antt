-- Any octets and ends, given to the second receiver one after the other: state, area, record and assembly buffer are handed on as left, "the caller
-- keeps state and area as left" (document 02, (iv)). Beside them the first receiver, given each run of octets between ends. Assumes nothing.
use Rattle.std.specs.Prelude.{◌≡◌, List, [], ◌∷◌, ◌++◌, ℕ, ltb, length, take, Option, Some, None}
use Rattle.receiver_answers.specs.Answers.{Said}
use Rattle.receiver_record.specs.declared.Record.{Record}
use Rattle.receive.specs.Receive.{received_of, buffer_of}
use Rattle.receive_histories.specs.History.{record_after, buffer_after}
use Rattle.stream.specs.declared.State.{State}
use Rattle.stream.specs.Stream.{most, empty, Saying, waits, answers, Turn, stream_of}

-- a call on what the one before left
abbrev pub next : Option ℕ → Turn → Turn
next g t = stream_of g t.state t.area t.after t.buffer

-- what is left in the end, and all replies in their order
unfoldable pub left_by : List (Option ℕ) → Turn → Turn
left_by [] t = t
left_by (g ∷ gs) t = left_by gs (next g t)

unfoldable pub replies : List (Option ℕ) → Turn → List Saying
replies [] t = []
replies (g ∷ gs) t = (next g t).reply ∷ replies gs (next g t)

-- before the first call: an empty state, with any area, record and buffer (and no reply yet)
abbrev pub begun : List ℕ → Record → List ℕ → Turn
begun area r b = record { reply = waits; state = empty; area = area; after = r; buffer = b }

-- octets, one after the other, for a run by itself (`alone`)
unfoldable pub octets : List ℕ → List (Option ℕ)
octets [] = []
octets (x ∷ xs) = Some x ∷ octets xs

-- the runs of octets that ends close, the first of them going on from the octets m; and the octets since the last end
unfoldable pub runs : List ℕ → List (Option ℕ) → List (List ℕ)
runs m [] = []
runs m (Some x ∷ gs) = runs (m ++ x ∷ []) gs
runs m (None ∷ gs) = m ∷ runs [] gs

unfoldable pub since : List ℕ → List (Option ℕ) → List ℕ
since m [] = m
since m (Some x ∷ gs) = since (m ++ x ∷ []) gs
since m (None ∷ gs) = since [] gs

-- what the first receiver answers to mFrames, given one after the other
unfoldable pub answers_to : Record → List ℕ → List (List ℕ) → List Said
answers_to r b [] = []
answers_to r b (m ∷ ms) = (received_of m r (length b)).said ∷ answers_to (received_of m r (length b)).after (buffer_of m r b) ms

-- to each octet that it waits, to each end the next of the answers
unfoldable pub at_ends : List (Option ℕ) → List Said → List Saying
at_ends [] said = []
at_ends (Some x ∷ gs) said = waits ∷ at_ends gs said
at_ends (None ∷ gs) [] = []
at_ends (None ∷ gs) (a ∷ said) = answers a ∷ at_ends gs said

-- the state after the octets m since the last end: how many of the first 1,531 there are, and whether there were more
abbrev pub state_after : List ℕ → State
state_after m = record { count = length (take most m); more = ltb most (length m) }

-- what holds after any octets and ends that go on from t, where the octets m have come since the last end; as it holds of all of them, it holds of
-- each front of them, so after each end
pub record Holds (gs : List (Option ℕ)) (m : List ℕ) (t : Turn) : Type 0 where
  -- "up to an end it answers only that it waits; at the end its answer, record and assembly buffer equal those of the first receiver on the octets
  -- since the last end"
  pub answered : replies gs t ≡ at_ends gs (answers_to t.after t.buffer (runs m gs))
  pub after : (left_by gs t).after ≡ record_after t.after t.buffer (runs m gs)
  pub buffer : (left_by gs t).buffer ≡ buffer_after t.after t.buffer (runs m gs)
  -- "beyond" the limit "it counts no octet but remembers that there were more": the state, and the octets of the area that it counts
  pub state : (left_by gs t).state ≡ state_after (since m gs)
  pub kept : take (length (take most (since m gs))) (left_by gs t).area ≡ take most (since m gs)
  -- the area stays as long as it was
  pub room : length (left_by gs t).area ≡ length t.area
