-- The receiving end of a link (demand 3): mFrames given one after the other, and what each is answered and delivers. Assumes nothing.
use Rattle.std.specs.Prelude.{Bool, not, ◌&&◌, List, [], ◌∷◌, ◌++◌, ℕ, eqb, length, take}
use Rattle.heads.specs.Head.{head_of}
use Rattle.receiver_answers.specs.Answers.{Said}
use Rattle.receiver_record.specs.declared.Record.{Record}
use Rattle.receive.specs.Receive.{received_of, buffer_of}
use Rattle.express_body.specs.Body.{body_of}
use Rattle.receive_histories.specs.History.{is_start, refusal}
use Rattle.link.specs.Frames.{if_so}

-- what a call gives its caller: the answer; by 0 the express body, through the separate call; by 1 a preemptable body, the buffer's first octets
pub record Given : Type 0 where
  pub said : Said
  pub express : List (List ℕ)
  pub preemptable : List (List ℕ)

abbrev pub given : List ℕ → Said → List ℕ → Given
given m s buffer =
    record { said = s; express = if_so (eqb s.number 0) (body_of m); preemptable = if_so (eqb s.number 1) (take s.detail buffer) }

-- record and buffer are "handed on untouched"
unfoldable pub receiving : Record → List ℕ → List (List ℕ) → List Given
receiving r buffer [] = []
receiving r buffer (m ∷ ms) =
    let s = received_of m r (length buffer) in
    let left = buffer_of m r buffer in
    given m s.said left ∷ receiving s.after left ms

-- the bodies delivered, by lane
unfoldable pub express_lane : List Given → List (List ℕ)
express_lane [] = []
express_lane (g ∷ gs) = g.express ++ express_lane gs

unfoldable pub preemptable_lane : List Given → List (List ℕ)
preemptable_lane [] = []
preemptable_lane (g ∷ gs) = g.preemptable ++ preemptable_lane gs

-- an "unrefused start of a preemptable frame": 10 to 17 are the refusals, of which 16 is no longer given
unfoldable pub unrefused_start : Record → List ℕ → List ℕ → Bool
unrefused_start r buffer m = not (refusal (received_of m r (length buffer)).said.number) && is_start (head_of m)
