-- What the types of lent memory say of it: octets are octets, and an entry is three words.
-- Assumes nothing.
use Rattle.std.specs.Prelude.{◌≡◌, List, [], ℕ, ◌<◌, ◌^◌, length, get_or}
use Rattle.gate_entries.specs.Entries.{Entry, entry, operation, gates, interval}

-- `[u8]`
abbrev pub Octets : List ℕ → Type 0
Octets s = (k : ℕ) → get_or s k 0 < 256

-- `[u32; 3]`
pub record Words (e : Entry) : Type 0 where
  pub three : e ≡ entry (operation e) (gates e) (interval e)
  pub small : interval e < 2 ^ 32

-- `[[u32; 3]]`
abbrev pub Entries : List Entry → Type 0
Entries es = (k : ℕ) → k < length es → Words (get_or es k [])
