-- Whether a gate control list is accepted (document 02, (i)): entry by entry, as octets that are read and as entries that are to be written.
-- Assumes nothing.
use Rattle.std.specs.Prelude.{Bool, cond, List, [], ◌∷◌, ◌++◌, ℕ, zero, suc, ◌*◌, leb, eqb, length, get_or, Result, Ok, Err}
use Rattle.gate_entries.specs.Entries.{size, Entry, entry_at, entry_octets, fault_at, fitting, refusal_number}
use Rattle.gate_lists.specs.declared.Error.{Error}
use Rattle.gate_lists.specs.declared.Error.TheVariants.{Refused, Short}

-- the most entries of a list
abbrev pub most : ℕ
most = 256

-- what is said of a list: good, with a number of entries, or of what was written; refused, by number, with the entry's own number, the first
-- being 1; or the output is short of the room for so many
pub data Said : Type 0 where
  good : ℕ → Said
  refused : ℕ → ℕ → Said
  short : ℕ → Said

abbrev pub said : Result ℕ Error → Said
said (Ok n) = good n
said (Err (Refused why k)) = refused (refusal_number why) k
said (Err (Short n)) = short n

-- an answer in the paper's numbers, "then 64, lent output too short", 0 where there is no refusal; and the number that goes with it
abbrev pub number_of : Said → ℕ
number_of (good n) = 0
number_of (refused q k) = q
number_of (short n) = 64

abbrev pub value_of : Said → ℕ
value_of (good n) = n
value_of (refused q k) = k
value_of (short n) = n

-- "Refusals, entry by entry": m more may pass behind the k that did; ended says that there is no entry behind k, fault what the entry behind k
-- is refused for by itself, and then "63 a 257th entry that passed these"
unfoldable pub walk : (ℕ → Bool) → (ℕ → ℕ) → ℕ → ℕ → Said
walk ended fault zero k =
    cond (ended k) (good k) (cond (eqb (fault k) 0) (refused 63 (suc k)) (refused (fault k) (suc k)))
walk ended fault (suc m) k =
    cond (ended k) (good k) (cond (eqb (fault k) 0) (walk ended fault m (suc k)) (refused (fault k) (suc k)))

-- a list of octets: each entry that passes has seven
abbrev pub octets_end : List ℕ → ℕ → Bool
octets_end s k = leb (length s) (k * size)

abbrev pub octets_fault : List ℕ → ℕ → ℕ
octets_fault s k = fault_at s (k * size)

abbrev pub of_octets : List ℕ → Said
of_octets s = walk (octets_end s) (octets_fault s) most 0

-- entries to be written: words that no entry can be are 61
abbrev pub entries_end : List Entry → ℕ → Bool
entries_end es k = leb (length es) k

abbrev pub entries_fault : List Entry → ℕ → ℕ
entries_fault es k = cond (fitting (get_or es k [])) 0 61

abbrev pub of_entries : List Entry → Said
of_entries es = walk (entries_end es) (entries_fault es) most 0

-- n entries of a list of octets, from that behind k on
unfoldable pub entries_from : ℕ → List ℕ → ℕ → List Entry
entries_from zero s k = []
entries_from (suc n) s k = entry_at s (k * size) ∷ entries_from n s (suc k)

-- the octets of entries, one behind the other
unfoldable pub octets_of_all : List Entry → List ℕ
octets_of_all [] = []
octets_of_all (e ∷ es) = entry_octets e ++ octets_of_all es
