-- The table of refusals (document 01, "Sending"): which one a preemptable call gets. Assumes nothing.
use Rattle.std.specs.Prelude.{Bool, true, false, not, ℕ, Option, Some, None, Result, Ok, Err}
use Rattle.sender_answers.specs.Answers.{number, short, outside}
use Rattle.sender_answers.specs.declared.Refusal.{Refusal}
use Rattle.sender_record.specs.Record.{in_range, differs, held}
use Rattle.sender_record.specs.declared.Record.{Record}

-- the table's refusals in its order, by whether each applies
abbrev pub first_of : (b30 b31 b32 b33 b34 : Bool) → Option ℕ
first_of true b31 b32 b33 b34 = Some 30
first_of false true b32 b33 b34 = Some 31
first_of false false true b33 b34 = Some 32
first_of false false false true b34 = Some 33
first_of false false false false true = Some 34
first_of false false false false false = None

-- the one that a body of n octets and a buffer of room octets get
unfoldable pub refusal_of : Record → ℕ → ℕ → Option ℕ
refusal_of r n room = first_of (short room) (not (in_range r)) (outside n) (differs r n) (held r)

-- the code's ruling, in these terms
abbrev pub ruled : Result Unit Refusal → Option ℕ
ruled (Ok go) = None
ruled (Err refusal) = Some (number refusal)
