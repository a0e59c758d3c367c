-- Any mFrames, given to receive one after the other: the record is handed on, and "between calls the caller keeps the buffer as left".
-- What document 01, "Receiving" and "Counters", says of such a history. Assumes nothing.
use Rattle.std.specs.Prelude.{◌≡◌, Bool, true, false, not, ◌&&◌, ◌||◌, List, [], ◌∷◌, ℕ, ◌+◌, ◌%◌, ◌^◌, ◌≤◌, eqb, leb, length, take}
use Rattle.crc.specs.Crc.{all_ones, register_over}
use Rattle.heads.specs.Head.{Reading, known, refused, head_of}
use Rattle.mframe.specs.declared.Kind.TheVariants.{Express, Start, Continuation, Verify, Respond}
use Rattle.receiver_record.specs.declared.Record.{Record}
use Rattle.receiver_record.specs.Records.{in_range}
use Rattle.outcomes.specs.Outcomes.{Step, delimiter_error}
use Rattle.starting.specs.Starting.{one}
use Rattle.receive.specs.Receive.{received_of, buffer_of}

-- the record and the buffer after the mFrames ms, from the record r and the buffer b
unfoldable pub record_after : Record → List ℕ → List (List ℕ) → Record
record_after r b [] = r
record_after r b (m ∷ ms) = record_after (received_of m r (length b)).after (buffer_of m r b) ms

unfoldable pub buffer_after : Record → List ℕ → List (List ℕ) → List ℕ
buffer_after r b [] = b
buffer_after r b (m ∷ ms) = buffer_after (received_of m r (length b)).after (buffer_of m r b) ms

-- a call as the history tells it: what the mFrame's head says, whether a frame was in assembly before, and the number answered
pub record Call : Type 0 where
  pub head : Reading
  pub assembling : Bool
  pub number : ℕ

abbrev pub call_of : Reading → Record → Step → Call
call_of head r step = record { head = head; assembling = r.assembling; number = step.said.number }

unfoldable pub calls : Record → List ℕ → List (List ℕ) → List Call
calls r b [] = []
calls r b (m ∷ ms) = call_of (head_of m) r (received_of m r (length b)) ∷ calls (received_of m r (length b)).after (buffer_of m r b) ms

-- how many calls pass a test
unfoldable pub count : (Call → Bool) → List Call → ℕ
count test [] = 0
count test (c ∷ cs) = one (test c) + count test cs

-- heads
abbrev pub is_start : Reading → Bool
is_start (known Express place) = false
is_start (known (Start frame) place) = true
is_start (known (Continuation frame fragment) place) = false
is_start (known Verify place) = false
is_start (known Respond place) = false
is_start (refused number detail) = false

abbrev pub is_continuation : Reading → Bool
is_continuation (known Express place) = false
is_continuation (known (Start frame) place) = false
is_continuation (known (Continuation frame fragment) place) = true
is_continuation (known Verify place) = false
is_continuation (known Respond place) = false
is_continuation (refused number detail) = false

-- 10 to 17 are refusals (16 is no longer given)
abbrev pub refusal : ℕ → Bool
refusal n = leb 10 n && leb n 17

-- an unrefused start; a frame delivered with answer 1
abbrev pub started : Call → Bool
started c = not (refusal c.number) && is_start c.head

abbrev pub delivered : Call → Bool
delivered c = eqb c.number 1

-- an assembly abandoned: by an unrefused start, or by 23, 24 or 25
abbrev pub abandoning : Call → Bool
abandoning c = (started c || (eqb c.number 23 || (eqb c.number 24 || eqb c.number 25))) && c.assembling

abbrev pub damaged_start : Call → Bool
damaged_start c = eqb c.number 25 && is_start c.head

-- "delimiter errors: one for each 15, 16, 17, 22", of which 16 is no longer given
abbrev pub misdelimited : Call → Bool
misdelimited c = delimiter_error c.number

-- "assembled: each 1 that took two or more mFrames"; "fragments: each continuation kept or completing"
abbrev pub completing : Call → Bool
completing c = eqb c.number 1 && is_continuation c.head

abbrev pub continuing : Call → Bool
continuing c = (eqb c.number 1 || eqb c.number 2) && is_continuation c.head

-- what holds after some calls, of the record r and the buffer b
pub record Holds (cs : List Call) (r : Record) (b : List ℕ) : Type 0 where
  -- the record is in range
  pub ranges : in_range r ≡ true
  -- the octets kept are the buffer's first ones, and the running CRC is theirs
  pub kept : r.kept ≤ length b
  pub running : r.assembling ≡ true → r.running ≡ register_over all_ones (take r.kept b)
  -- "the unrefused starts given so far equal the frames delivered with answer 1, plus the assembly errors, plus one if assembling"
  pub starts : count started cs % 2 ^ 32 ≡ (count delivered cs + r.counters.errors + one r.assembling) % 2 ^ 32
  -- "assembly errors: one for each assembly abandoned and each damaged start", and the other three counters
  pub errors : r.counters.errors ≡ (count abandoning cs + count damaged_start cs) % 2 ^ 32
  pub delimiters : r.counters.delimiters ≡ count misdelimited cs % 2 ^ 32
  pub assembled : r.counters.assembled ≡ count completing cs % 2 ^ 32
  pub fragments : r.counters.fragments ≡ count continuing cs % 2 ^ 32
