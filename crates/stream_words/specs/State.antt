-- The second receiver's state, which C calls a stream, as words of 32 bits: the refusals that come before all others, what becomes of an octet, and
-- the answer to an mFrame that is too long, by the words of the first receiver's record.
-- Assumes nothing.
use Rattle.std.specs.Prelude.{◌≡◌, cond, ◌&&◌, ◌||◌, List, [], ◌∷◌, ℕ, ◌+◌, eqb, ltb, length, set, Result, Ok, Err}
use Rattle.receiver_record.specs.Records.{in_range}
use Rattle.receiver_words.specs.Receiver.{receiver_fits, receiver_of}
use Rattle.stream.specs.declared.State.{State}
use Rattle.stream.specs.declared.Refusal.{Refusal}
use Rattle.stream.specs.Stream.{most, number, unsound, stored}
use Rattle.words.specs.Words.{flag, word, flag_at}

-- the state in two words, and the state that two words are
abbrev pub state_words : State → List ℕ
state_words s = s.count ∷ flag s.more ∷ []

abbrev pub state_of : List ℕ → State
state_of w = record { count = word w 0; more = flag_at w 1 }

-- the number of a refusal, 0 where there is none
abbrev pub told : {T : Type 0} → Result T Refusal → ℕ
told (Ok x) = 0
told (Err why) = number why

-- 18 for an area of so many octets, then 19, which words that are no state's get too, else 0
unfoldable pub refusal_of : List ℕ → ℕ → ℕ
refusal_of w room = cond (ltb room most) 18 (cond (ltb 1 (word w 1) || unsound (state_of w)) 19 0)

-- the words after an octet: one more is counted; where 1,531 are, that there were more is remembered
abbrev pub counted_words : List ℕ → List ℕ
counted_words w = cond (ltb (word w 0) most) (set w 0 (word w 0 + 1)) (set w 1 1)

-- what comes of an octet: 0, that it waits, or 18 or 19, which change nothing
pub record Keeping : Type 0 where
  pub number : ℕ
  pub stream : List ℕ
  pub area : List ℕ

unfoldable pub octet_of : List ℕ → List ℕ → ℕ → Keeping
octet_of w area octet =
    cond (eqb (refusal_of w (length area)) 0)
    (record { number = 0; stream = counted_words w; area = stored octet (state_of w) area })
    (record { number = refusal_of w (length area); stream = w; area = area })

-- the promise of an octet: the number, the state's words, and every octet of the area
pub record Octet (p : Keeping) (number : ℕ) (stream area : List ℕ) : Type 0 where
  pub answer : number ≡ p.number
  pub state : stream ≡ p.stream
  pub octets : area ≡ p.area

-- what the first receiver answers to an mFrame that runs over: 10, then 11, which words that are no record's get too, then 13
unfoldable pub too_long : List ℕ → ℕ → ℕ
too_long w room = cond (ltb room 1518) 10 (cond (receiver_fits w && in_range (receiver_of w)) 13 11)
