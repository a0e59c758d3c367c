-- What the sending calls answer (document 01, "Sending"), in the paper's numbers. Assumes nothing.
use Rattle.std.specs.Prelude.{◌≡◌, Bool, ◌||◌, List, [], ℕ, ltb, length, Result, Ok, Err}
use Rattle.octets.specs.Laid.{over}
use Rattle.sender_answers.specs.declared.Refusal.{Refusal}
use Rattle.sender_answers.specs.declared.Refusal.TheVariants.{Output, Record, Body, Length, Hold}
use Rattle.sender_answers.specs.declared.Written.{Written}

-- an answer as the paper gives it: the mFrame's length and whether the frame is done, or the number of a refusal
pub data Said : Type 0 where
  wrote : (n : ℕ) (done : Bool) → Said
  refused : (number : ℕ) → Said

-- the refusals' numbers
abbrev pub number : Refusal → ℕ
number Output = 30
number Record = 31
number Body = 32
number Length = 33
number Hold = 34

abbrev pub said : Result Written Refusal → Said
said (Ok w) = wrote w.length w.done
said (Err why) = refused (number why)

-- what a call makes: the answer, and what then stands at the buffer's front. "A refusal writes nothing"
pub record Outcome : Type 0 where
  pub said : Said
  pub octets : List ℕ

abbrev pub refuse : ℕ → Outcome
refuse k = record { said = refused k; octets = [] }

abbrev pub write : List ℕ → Bool → Outcome
write mframe done = record { said = wrote (length mframe) done; octets = mframe }

-- the promise of a call: its answer, and every octet of the buffer, which was out and is out'
pub record Answered (o : Outcome) (out : List ℕ) (a : Result Written Refusal) (out' : List ℕ) : Type 0 where
  pub answer : said a ≡ o.said
  pub octets : out' ≡ over o.octets out

-- 30: "output buffer under 1,530 octets"; 32: "body not 60 to 1,518"
abbrev pub short : ℕ → Bool
short room = ltb room 1530

abbrev pub outside : ℕ → Bool
outside n = ltb n 60 || ltb 1518 n
