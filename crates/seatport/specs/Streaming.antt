-- The end of an mFrame that came octet by octet, as C sees it: the number that is returned, the detail, the words of the second receiver's state and
-- of the receiving record, and every octet of the assembly buffer. Assumes nothing.
use Rattle.std.specs.Prelude.{◌≡◌, cond, List, ℕ, eqb, length}
use Rattle.stream.specs.Stream.{empty, heard}
use Rattle.stream_words.specs.State.{state_of, state_words, refusal_of}
use Rattle.seatport.specs.Receiving.{Receiving, receiving_of}

-- what comes of an end
pub record Ending : Type 0 where
  pub stream : List ℕ
  pub received : Receiving

-- 18 and 19 change nothing, and their detail is 0
abbrev pub refused_by : ℕ → List ℕ → List ℕ → List ℕ → Ending
refused_by n v w buffer = record { stream = v; received = record { number = n; detail = 0; receiver = w; buffer = buffer } }

unfoldable pub end_of : List ℕ → List ℕ → List ℕ → List ℕ → Ending
end_of v area w buffer =
    cond (eqb (refusal_of v (length area)) 0)
    (record { stream = state_words empty; received = receiving_of w (heard (state_of v) area) buffer })
    (refused_by (refusal_of v (length area)) v w buffer)

-- the promise of an end: the number, the state's words, the detail, the receiver's words, and every octet of the buffer
pub record Ended (p : Ending) (number : ℕ) (stream : List ℕ) (detail : ℕ) (receiver buffer : List ℕ) : Type 0 where
  pub answer : number ≡ p.received.number
  pub state : stream ≡ p.stream
  pub value : detail ≡ p.received.detail
  pub after : receiver ≡ p.received.receiver
  pub octets : buffer ≡ p.received.buffer
