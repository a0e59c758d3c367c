-- The sending calls' own promises, told in words.
-- Assumes nothing.
use mathlib.Core.Path.{◌≡◌, ap, ◌∙◌}
use mathlib.Core.List.{List}
use Prim.Native.Nat.{ℕ}
use Rattle.std.specs.Prelude.{Result}
use Rattle.sender_answers.specs.Answers.{said, Outcome, Answered}
use Rattle.sender_answers.specs.declared.Refusal.{Refusal}
use Rattle.sender_answers.specs.declared.Written.{Written}
use Rattle.send.specs.Preemptable.{Step, Sent}
use Rattle.send.specs.declared.Sending.{Sending}
use Rattle.sender_words.specs.Sender.{sender_words}
use Rattle.sent_words.specs.Sent.{number_of, written_of}
use Rattle.seatport.specs.Sending.{Wrote, told}
use Rattle.seatport.specs.Sending as S

pub wrote_words : {o : Outcome} {out out' written : List ℕ} {a : Result Written Refusal} {number : ℕ} → Answered o out a out'
    → number ≡ number_of (said a) → written ≡ written_of (said a) → Wrote o out number written out'
wrote_words h n w = record { answer = n ∙ ap number_of h.answer; words = w ∙ ap written_of h.answer; octets = h.octets }

pub sent_words : {p : Step} {out out' sender written : List ℕ} {s : Sending} {number : ℕ} → Sent p out s out'
    → number ≡ number_of (said s.answer) → written ≡ written_of (said s.answer) → sender ≡ sender_words s.after
    → S.Sent (told p) out number sender written out'
sent_words h n w a =
    record {
      answer = n ∙ ap number_of h.answer;
      words = w ∙ ap written_of h.answer;
      after = a ∙ ap sender_words h.after;
      octets = h.octets;
    }
