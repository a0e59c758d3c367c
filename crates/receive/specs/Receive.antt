-- What any octets are answered, and what becomes of the record and of each octet of the buffer (document 01, "Receiving"). Assumes nothing.
use Rattle.std.specs.Prelude.{◌≡◌, Bool, true, false, not, cond, ◌||◌, List, [], ℕ, ◌-◌, eqb, ltb, length, drop}
use Rattle.octets.specs.Laid.{laid}
use Rattle.endings.specs.Judge.{data_of}
use Rattle.heads.specs.Head.{Reading, known, refused, head_of}
use Rattle.mframe.specs.declared.Kind.{Kind}
use Rattle.receiver_record.specs.declared.Record.{Record}
use Rattle.outcomes.specs.declared.Received.{Received}
use Rattle.receiver_answers.specs.declared.Answer.{Answer}
use Rattle.receiver_answers.specs.declared.Answer.TheVariants.{Express, Delivered, Kept, VerifyHeard, RespondHeard, Refused, Dropped}
use Rattle.receiver_answers.specs.Answers.{Said, says}
use Rattle.receiver_record.specs.Records.{in_range}
use Rattle.outcomes.specs.Outcomes.{Step, told, unchanged}
use Rattle.assembly.specs.Steps.{step_of}

-- by what the head says: 12 to 15 or 17, or by kind, with the octets from where the data begin
abbrev pub by_head : Reading → List ℕ → Record → Step
by_head (known kind place) m r = step_of kind (drop place m) r
by_head (refused number detail) m r = unchanged (says number detail) r

-- an mFrame m, with the record r and a buffer of so many octets: 10, 11, then by the head
unfoldable pub received_of : List ℕ → Record → ℕ → Step
received_of m r room =
    cond (ltb room 1518) (unchanged (says 10 0) r) (cond (not (in_range r)) (unchanged (says 11 0) r) (by_head (head_of m) m r))

-- octets laid into the buffer so that they end at a place
abbrev pub up_to : ℕ → List ℕ → List ℕ → List ℕ
up_to end octets buffer = laid buffer (end - length octets) octets

-- 1 and 2 append the data, which end where the octets kept end; "drops write nothing to the buffer", nor does any other answer
abbrev pub writes : ℕ → Bool
writes number = eqb number 1 || eqb number 2

-- which answers these are
abbrev pub keeps : Answer → Bool
keeps (Express n) = false
keeps (Delivered n) = true
keeps (Kept n) = true
keeps VerifyHeard = false
keeps RespondHeard = false
keeps (Refused why) = false
keeps (Dropped why) = false

abbrev pub left_of : Said → List ℕ → List ℕ → List ℕ
left_of s octets buffer = cond (writes s.number) (up_to s.detail octets buffer) buffer

-- the data of an mFrame: from where its head says that they begin up to the last four octets
abbrev pub data_in : Reading → List ℕ → List ℕ
data_in (known kind place) m = data_of (drop place m)
data_in (refused number detail) m = []

-- the buffer after the call
unfoldable pub buffer_of : List ℕ → Record → List ℕ → List ℕ
buffer_of m r buffer = left_of (received_of m r (length buffer)).said (data_in (head_of m) m) buffer

-- the promise of receive: answer and record, and every octet of the buffer, which was b and is b'
pub record Answered (m : List ℕ) (r : Record) (b : List ℕ) (got : Received) (b' : List ℕ) : Type 0 where
  pub step : told got ≡ received_of m r (length b)
  pub octets : b' ≡ buffer_of m r b

-- the same of an mFrame of known kind, by its data and check octets
pub record Taken (kind : Kind) (octets : List ℕ) (r : Record) (b : List ℕ) (got : Received) (b' : List ℕ) : Type 0 where
  pub step : told got ≡ step_of kind octets r
  pub left : b' ≡ left_of (step_of kind octets r).said (data_of octets) b
