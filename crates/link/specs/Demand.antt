-- Demand 3 in the project's own words, those of the README, over the definitions that the contracts cite. Assumes nothing.
--
-- The contracts that tie these definitions to functions: `fresh_of` to sender_record's Record::fresh, `preemptable_of` to send's preemptable;
-- `express_of` to single's express, `order_of` to its verify and respond; `head_of` to heads' head_of; `fresh` to receiver_record's Record::fresh,
-- `received_of` and `buffer_of` to receive's receive, `body_of` to express_body's express_body. A sending call leaves `over` what it wrote in its buffer.
use Rattle.std.specs.Prelude.{◌≡◌, true, List, ◌∷◌, ℕ, ◌≤◌, length, None}
use Rattle.receiver_record.specs.declared.Record.{Record}
use Rattle.receiver_record.specs.Records.{fresh}
use Rattle.receive_histories.specs.History.{record_after, buffer_after}
use Rattle.link.specs.Sender.{Call, MFrame, sent}
use Rattle.link.specs.Frames.{SameToEnd, fates, NeverFour, arrivals, express_expected, preemptable_expected}
use Rattle.link.specs.Receiver.{Given, receiving, express_lane, preemptable_lane, unrefused_start}

-- the bodies delivered, lane by lane, are those expected of the mFrames sent
pub record Delivers (ms : List MFrame) (got : List Given) : Type 0 where
  pub express_lane_lem : express_lane got ≡ express_expected ms
  pub preemptable_lane_lem : preemptable_lane got ≡ preemptable_expected ms

-- given an unrefused start and then any octets, a receiver with this record and buffer gives its caller, call by call, what a fresh one with as
-- long a buffer does
abbrev pub InStep : Record → List ℕ → Type 0
InStep r buffer =
    (start : List ℕ) (rest : List (List ℕ)) (other : List ℕ) → unrefused_start r buffer start ≡ true → length other ≡ length buffer
    → receiving r buffer (start ∷ rest) ≡ receiving fresh other (start ∷ rest)

pub record Demand3 : Type 0 where
  -- "Both ends start fresh, preemption active throughout, records and an assembly buffer of at least 1,518 octets handed on untouched but for hold
  -- and extra, each frame's octets the same until its end. mFrames arrive unaltered, in order and once, except that some are lost, but never four
  -- preemptable ones in a row, those of other kinds not counted. Then the frames delivered are exactly those sent to their end that lost no
  -- mFrame, each lane in its sending order." (Active throughout: `sent` begins with an active record, and no call sets that field.) "Demand 3 also
  -- holds when the link drops any number of leading 55s": of each mFrame that arrives any number, chosen with its fate.
  pub delivers : (calls : List Call) (buffer : List ℕ) → 1518 ≤ length buffer → SameToEnd None (sent calls) → NeverFour (fates (sent calls))
      → Delivers (sent calls) (receiving fresh buffer (arrivals (sent calls)))
  -- "And after any octets at all, from the next unrefused start of a preemptable frame on, a receiver delivers what a fresh one with as long a
  -- buffer would."
  pub in_step : (octets : List (List ℕ)) (buffer : List ℕ) → InStep (record_after fresh buffer octets) (buffer_after fresh buffer octets)
  -- The same of any record and any buffer: a start that is not refused shows that the record is in range.
  pub in_step_from_any : (r : Record) (buffer : List ℕ) → InStep r buffer
