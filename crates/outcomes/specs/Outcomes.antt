-- An answer together with the record after it, in the paper's numbers (document 01, "Receiving" and "Counters"): one that leaves the assembly
-- as it is, and one that abandons it. Assumes nothing.
use Rattle.std.specs.Prelude.{Bool, true, false, cond, ◌||◌, ℕ, eqb}
use Rattle.faults.specs.declared.Fault.{Fault}
use Rattle.faults.specs.declared.Fault.TheVariants.{Short, Long, Preamble, Delimiter, Fragment}
use Rattle.receiver_answers.specs.Answers.{Said, said}
use Rattle.receiver_record.specs.declared.Record.{Record}
use Rattle.counters.specs.Counters.{erred, strayed}
use Rattle.receiver_record.specs.Records.{shut, counting}
use Rattle.outcomes.specs.declared.Received.{Received}

-- an answer and the record after it, as the paper tells them
pub record Step : Type 0 where
  pub said : Said
  pub after : Record

abbrev pub told : Received → Step
told r = record { said = said r.answer; after = r.after }

-- "delimiter errors: one for each 15, 16, 17, 22"; 16 is no longer given (document 02, (vi))
abbrev pub delimiter_error : ℕ → Bool
delimiter_error n = eqb n 15 || (eqb n 17 || eqb n 22)

-- which of the refusals by the head these are
abbrev pub is_stray : Fault → Bool
is_stray Short = false
is_stray Long = false
is_stray Preamble = false
is_stray (Delimiter bits) = true
is_stray Fragment = true

-- an answer that is one: it is counted, and all else stays
abbrev pub strays : Said → Record → Step
strays s r = record { said = s; after = counting (strayed r.counters) r }

-- an answer that leaves the assembly as it is: all but the delimiter counter stays
abbrev pub unchanged : Said → Record → Step
unchanged s r = record { said = s; after = cond (delimiter_error s.number) (strays s r).after r }

-- "dropped, assembly abandoned": one assembly error
abbrev pub abandoned : Said → Record → Step
abandoned s r = record { said = s; after = shut (erred 1 r.counters) }
