-- Octets laid into lent memory at a place: the one definition by which every contract speaks of what a call wrote. It holds for elements of any
-- type, since the hall's schedule is written in rows of words.
-- Assumes nothing.
use Rattle.std.specs.Prelude.{List, ◌++◌, ℕ, ◌+◌, length, take, drop}

module _ {A : Type 0} where
  -- the memory xs with the piece p in it from place at on; all that stands before and behind the piece is kept
  unfoldable pub laid : List A → ℕ → List A → List A
  laid xs at p = take at xs ++ p ++ drop (at + length p) xs

  -- the memory xs with p at its front; nothing laid over it leaves it as it was
  abbrev pub over : List A → List A → List A
  over p xs = p ++ drop (length p) xs
