-- The second receiver (document 02, (iv)): what it replies to an octet and to the end of an mFrame, and what becomes of its state, of the area, of
-- the first receiver's record and of the assembly buffer. Assumes nothing.
use Rattle.std.specs.Prelude.{◌≡◌, Bool, true, false, cond, ◌&&◌, ◌||◌, List, [], ◌∷◌, ◌++◌, ℕ, ◌+◌, ltb, length, take, Option, Some, None, Result, Ok, Err}
use Rattle.octets.specs.Laid.{laid}
use Rattle.heads.specs.Head.{head_of, is_known}
use Rattle.receiver_answers.specs.declared.Answer.{Answer}
use Rattle.receiver_answers.specs.Answers.{Said, says, said}
use Rattle.receiver_record.specs.declared.Record.{Record}
use Rattle.receiver_record.specs.Records.{in_range}
use Rattle.receive.specs.Receive.{received_of, buffer_of}
use Rattle.stream.specs.declared.State.{State}
use Rattle.stream.specs.declared.Refusal.{Refusal}
use Rattle.stream.specs.declared.Refusal.TheVariants as R
use Rattle.stream.specs.declared.Streamed.{Streamed}

-- "a lent area of 1,530 octets"; "beyond 1,530 it counts no octet"; since (vi) a continuation "may .. have 1,531 octets, the new area and limit"
abbrev pub most : ℕ
most = 1531

-- "18, area under" the limit, "then 19, a state .."
abbrev pub number : Refusal → ℕ
number R.Area = 18
number R.State = 19

-- ".. counting over" it "or remembering more below that"
abbrev pub unsound : State → Bool
unsound s = ltb most s.count || (s.more && ltb s.count most)

abbrev pub empty : State
empty = record { count = 0; more = false }

-- an octet is counted, and laid behind those before it; beyond 1,531 it is only remembered that there were more
abbrev pub counted : State → State
counted s = cond (ltb s.count most) (record { count = s.count + 1; more = s.more }) (record { count = s.count; more = true })

abbrev pub stored : ℕ → State → List ℕ → List ℕ
stored octet s area = cond (ltb s.count most) (laid area s.count (octet ∷ [])) area

-- the octets since the last end, as far as state and area tell: those kept, and where there were more, one octet for all of them (the laws
-- `suffice_received` and `suffice_buffer` say why it may be any)
abbrev pub heard : State → List ℕ → List ℕ
heard s area = cond s.more (take s.count area ++ 0 ∷ []) (take s.count area)

-- where there were more, the octets kept decide the head: it is refused by them, or they are an mFrame, which then runs over and is too long (the
-- longest there is: seven octets 55, a C, its fragment code and 1,522)
abbrev pub runs_over : (more : Bool) (kept : List ℕ) → Bool
runs_over more kept = more && is_known (head_of kept)

-- what the first receiver answers to that: 10, 11, then 13
abbrev pub long_of : Record → ℕ → Said
long_of r room = cond (ltb room 1518) (says 10 0) (cond (in_range r) (says 13 0) (says 11 0))

-- a reply in the paper's numbers: it waits, refuses by a number of its own, or answers as the first receiver
pub data Saying : Type 0 where
  waits : Saying
  refuses : ℕ → Saying
  answers : Said → Saying

abbrev pub saying : Result (Option Answer) Refusal → Saying
saying (Ok None) = waits
saying (Err why) = refuses (number why)
saying (Ok (Some answer)) = answers (said answer)

-- what comes of a call: the reply, the state, the area, the record and the assembly buffer
pub record Turn : Type 0 where
  pub reply : Saying
  pub state : State
  pub area : List ℕ
  pub after : Record
  pub buffer : List ℕ

-- "18 and 19 change nothing"
abbrev pub refused_by : ℕ → State → List ℕ → Record → List ℕ → Turn
refused_by n s area r b = record { reply = refuses n; state = s; area = area; after = r; buffer = b }

-- "at the end its answer, record and assembly buffer equal those of the first receiver"; "after an end .. the state is empty"
abbrev pub ended_by : List ℕ → List ℕ → Record → List ℕ → Turn
ended_by m area r b =
    record {
      reply = answers (received_of m r (length b)).said;
      state = empty;
      area = area;
      after = (received_of m r (length b)).after;
      buffer = buffer_of m r b;
    }

-- "up to an end it answers only that it waits"
abbrev pub turn_of : Option ℕ → State → List ℕ → Record → List ℕ → Turn
turn_of (Some x) s area r b = record { reply = waits; state = counted s; area = stored x s area; after = r; buffer = b }
turn_of None s area r b = ended_by (heard s area) area r b

-- the refusals come "at every call and before all others"
unfoldable pub stream_of : Option ℕ → State → List ℕ → Record → List ℕ → Turn
stream_of g s area r b =
    cond (ltb (length area) most) (refused_by 18 s area r b) (cond (unsound s) (refused_by 19 s area r b) (turn_of g s area r b))

-- the promise of a call: the reply, the state, the record, and every octet of the area and of the buffer, which are area' and b' afterwards
pub record Streams (t : Turn) (got : Streamed) (area' b' : List ℕ) : Type 0 where
  pub reply : saying got.reply ≡ t.reply
  pub state : got.state ≡ t.state
  pub area : area' ≡ t.area
  pub after : got.after ≡ t.after
  pub buffer : b' ≡ t.buffer
