-- What an event of link verification is answered, in the papers' numbers, and the record after it.
-- Assumes nothing.
use Rattle.std.specs.Prelude.{Bool, false, ℕ, Result, Ok, Err}
use Rattle.verify_record.specs.declared.Record.{Record}
use Rattle.verify_answers.specs.declared.Refusal.{Refusal}
use Rattle.verify_answers.specs.declared.Refusal.TheVariants as Why
use Rattle.verify_answers.specs.declared.Stepped.{Stepped}

-- the refusals' numbers
abbrev pub number : Refusal → ℕ
number Why.Record = 40
number Why.Wait = 41

-- an answer in the paper's terms: 0 and whether a V is ordered, or the number of the refusal
pub record Said : Type 0 where
  pub number : ℕ
  pub ordered : Bool

abbrev pub said : Result Bool Refusal → Said
said (Ok v) = record { number = 0; ordered = v }
said (Err why) = record { number = number why; ordered = false }

-- what comes of an event: the answer in the paper's terms, and the record after it
pub record Told : Type 0 where
  pub said : Said
  pub after : Record

abbrev pub told : Stepped → Told
told s = record { said = said s.answer; after = s.after }

-- an event that is taken, with a V ordered or not
abbrev pub takes : Record → Bool → Told
takes r v = record { said = record { number = 0; ordered = v }; after = r }

-- an event that is refused for the reason with this number: the record is handed back
abbrev pub refuses : ℕ → Record → Told
refuses k r = record { said = record { number = k; ordered = false }; after = r }
