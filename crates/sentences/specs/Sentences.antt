-- What programs say of a refused record of a trace. Assumes nothing.
use Rattle.std.specs.Prelude.{List, ℕ, ◌++◌, codes}
use Rattle.std.specs.Fmt.{decimal}
use Rattle.trace.specs.declared.Refusal.{Refusal}
use Rattle.trace.specs.declared.Refusal.TheVariants.{Header, Length, Kind, Content}

-- what is wrong with the record, and the refusal's number
abbrev pub why_text : Refusal → List ℕ
why_text Header = codes " is cut off: the trace ends inside its header (50)."
why_text Length = codes " says that its content is longer than 1,600 octets (51)."
why_text Kind = codes " is of a kind other than 1 (52)."
why_text Content = codes " is cut off: the trace ends inside it (53)."

-- the record's number, and what is wrong with it
abbrev pub refused_text : ℕ → Refusal → List ℕ
refused_text number why = codes "record " ++ (decimal number ++ why_text why)
