-- The sending calls as C sees them: the number that is returned, the two words of what was written, the sending record's words afterwards,
-- and every octet of the lent buffer. Assumes nothing.
use Rattle.std.specs.Prelude.{◌≡◌, cond, List, [], ◌∷◌, ℕ}
use Rattle.octets.specs.Laid.{over}
use Rattle.sender_answers.specs.Answers.{Outcome, short}
use Rattle.send.specs.Preemptable.{Step, preemptable_of}
use Rattle.sender_words.specs.Sender.{sender_words, sender_fits, sender_of}
use Rattle.sent_words.specs.Sent.{number_of, written_of, ask_of}

-- the promise of a call that has no record: the number, the two words, and every octet of the buffer, which was out and is out'
pub record Wrote (o : Outcome) (out : List ℕ) (number : ℕ) (written out' : List ℕ) : Type 0 where
  pub answer : number ≡ number_of o.said
  pub words : written ≡ written_of o.said
  pub octets : out' ≡ over o.octets out

-- what comes of a preemptable call
pub record Sending : Type 0 where
  pub number : ℕ
  pub written : List ℕ
  pub sender : List ℕ
  pub octets : List ℕ

abbrev pub told : Step → Sending
told s = record { number = number_of s.said; written = written_of s.said; sender = sender_words s.after; octets = s.octets }

-- words that are no record's get 31, or the table's 30 before it; nothing is written, and the words stay
abbrev pub unfit : List ℕ → ℕ → Sending
unfit w room = record { number = cond (short room) 30 31; written = 0 ∷ 0 ∷ []; sender = w; octets = [] }

unfoldable pub sending_of : List ℕ → List ℕ → ℕ → ℕ → Sending
sending_of w body ask room = cond (sender_fits w) (told (preemptable_of (sender_of w) body (ask_of ask) room)) (unfit w room)

-- the promise of the preemptable call: the number, the two words, the sender's words, and every octet of the buffer
pub record Sent (p : Sending) (out : List ℕ) (number : ℕ) (sender written out' : List ℕ) : Type 0 where
  pub answer : number ≡ p.number
  pub words : written ≡ p.written
  pub after : sender ≡ p.sender
  pub octets : out' ≡ over p.octets out
