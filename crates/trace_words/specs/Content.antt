-- What reading a record of a trace says, as words of 32 bits.
-- Assumes nothing.
use Rattle.std.specs.Prelude.{List, [], ◌∷◌, ℕ, ◌<◌, ◌^◌}
use Rattle.trace.specs.Trace.{Said, found, ended, refused}

-- 0 for a record, 1 where no octet is left, else the refusal's number
abbrev pub number_of : Said → ℕ
number_of (found start n next) = 0
number_of ended = 1
number_of (refused k) = k

-- start, length and next; all 0 where there is no record
abbrev pub content_of : Said → List ℕ
content_of (found start n next) = start ∷ n ∷ next ∷ []
content_of ended = 0 ∷ 0 ∷ 0 ∷ []
content_of (refused k) = 0 ∷ 0 ∷ 0 ∷ []

-- what a word holds
abbrev pub Short : Said → Type 0
Short (found start n next) = (start < 2 ^ 32) × ((n < 2 ^ 32) × (next < 2 ^ 32))
Short ended = Unit {0}
Short (refused k) = Unit {0}
