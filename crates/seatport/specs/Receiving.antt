-- The receiving calls as C sees them: the number that is returned, the detail, the receiving record's words afterwards, and every octet of
-- the lent buffer; the express body as where it starts and how long it is. Assumes nothing.
use Rattle.std.specs.Prelude.{◌≡◌, cond, List, [], ◌∷◌, ℕ, ltb, length}
use Rattle.outcomes.specs.Outcomes.{Step}
use Rattle.receive.specs.Receive.{received_of, buffer_of}
use Rattle.express_body.specs.Body.{body_of, place_of}
use Rattle.receiver_words.specs.Receiver.{receiver_words, receiver_fits, receiver_of}

-- what comes of a call
pub record Receiving : Type 0 where
  pub number : ℕ
  pub detail : ℕ
  pub receiver : List ℕ
  pub buffer : List ℕ

abbrev pub told : Step → List ℕ → Receiving
told s buffer = record { number = s.said.number; detail = s.said.detail; receiver = receiver_words s.after; buffer = buffer }

-- words that are no record's get 11, or the table's 10 before it; the words and the buffer stay
abbrev pub unfit : List ℕ → List ℕ → Receiving
unfit w buffer = record { number = cond (ltb (length buffer) 1518) 10 11; detail = 0; receiver = w; buffer = buffer }

unfoldable pub receiving_of : List ℕ → List ℕ → List ℕ → Receiving
receiving_of w m buffer =
    cond (receiver_fits w) (told (received_of m (receiver_of w) (length buffer)) (buffer_of m (receiver_of w) buffer)) (unfit w buffer)

-- the promise of receive: the number, the detail, the receiver's words, and every octet of the buffer
pub record Received (p : Receiving) (number detail : ℕ) (receiver buffer : List ℕ) : Type 0 where
  pub answer : number ≡ p.number
  pub value : detail ≡ p.detail
  pub after : receiver ≡ p.receiver
  pub octets : buffer ≡ p.buffer

-- the express body: the place where it starts in the mFrame, and how long it is
abbrev pub part_of : List ℕ → List ℕ
part_of m = place_of m ∷ length (body_of m) ∷ []
