-- An entry of the hall switch's gate control list (document 02, (i); source 001, ieee8021STAdminControlList): its octets in the list, the three
-- words that a reader has of it, and what it is refused for.
-- Assumes nothing.
use Rattle.std.specs.Prelude.{Bool, cond, not, ◌&&◌, List, [], ◌∷◌, ℕ, ◌+◌, ◌-◌, ◌/◌, ◌%◌, ltb, leb, eqb, length, get_or, Result, Ok, Err}
use Rattle.fours.specs.Word.{word_of}
use Rattle.gate_entries.specs.declared.Refusal.{Refusal}
use Rattle.gate_entries.specs.declared.Refusal.TheVariants.{Cut, Operation, Length, Many}

-- "one octet of operation (0 set gates, 1 set and hold, 2 set and release)"
abbrev pub greatest : ℕ
greatest = 2

-- "length 5 for each operation"
abbrev pub five : ℕ
five = 5

-- an entry's octets: operation, length and five of value
abbrev pub size : ℕ
size = 7

-- an entry as it is read: operation, gate octet and interval, a word each
abbrev pub Entry : Type 0
Entry = List ℕ

abbrev pub entry : ℕ → ℕ → ℕ → Entry
entry o g t = o ∷ g ∷ t ∷ []

abbrev pub operation : Entry → ℕ
operation e = get_or e 0 0

abbrev pub gates : Entry → ℕ
gates e = get_or e 1 0

abbrev pub interval : Entry → ℕ
interval e = get_or e 2 0

-- "in nanoseconds, high octet first"
abbrev pub high_first : ℕ → List ℕ
high_first t = t / 16777216 % 256 ∷ t / 65536 % 256 ∷ t / 256 % 256 ∷ t % 256 ∷ []

-- "one octet of operation .., one of length, the value": "gate octet, then interval"
unfoldable pub entry_octets : Entry → List ℕ
entry_octets e = operation e ∷ five ∷ gates e ∷ high_first (interval e)

-- the entry whose octets stand from a place of a list on
unfoldable pub entry_at : List ℕ → ℕ → Entry
entry_at s at =
    entry (get_or s at 0) (get_or s (at + 2) 0) (word_of (get_or s (at + 6) 0) (get_or s (at + 5) 0) (get_or s (at + 4) 0) (get_or s (at + 3) 0))

-- the octets left from a place on
abbrev pub left : List ℕ → ℕ → ℕ
left s at = length s - at

-- what the entry at a place is refused for, "in this order: 60 header or value cut, 61 operation over 2, 62 length not 5", the header being the
-- two octets in front of the value, of which the second is the value's length; 0 where it passes
unfoldable pub fault_at : List ℕ → ℕ → ℕ
fault_at s at =
    cond (ltb (left s at) 2) 60
    (cond (ltb (left s (at + 2)) (get_or s (at + 1) 0)) 60
    (cond (ltb greatest (get_or s at 0)) 61
    (cond (not (eqb (get_or s (at + 1) 0) five)) 62 0)))

-- three words that an entry of a list can be: no operation over 2, and gates that an octet holds
abbrev pub fitting : Entry → Bool
fitting e = leb (operation e) greatest && leb (gates e) 255

-- the numbers of the refusals
abbrev pub refusal_number : Refusal → ℕ
refusal_number Cut = 60
refusal_number Operation = 61
refusal_number Length = 62
refusal_number Many = 63

-- what is said of an entry by itself, as a number: 0 where it passes
abbrev pub judged : Result (Unit {0}) Refusal → ℕ
judged (Ok _) = 0
judged (Err q) = refusal_number q
