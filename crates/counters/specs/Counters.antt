-- The receiving side's counters and their steps (document 01, "Counters"). Assumes nothing.
use Rattle.std.specs.Prelude.{ℕ, ◌+◌, ◌%◌, ◌^◌}
use Rattle.counters.specs.declared.Counters.{Counters}

-- "32 bits each, going from 4,294,967,295 to 0"
abbrev pub more : ℕ → ℕ → ℕ
more k n = (n + k) % 2 ^ 32

-- k assembly errors
abbrev pub erred : ℕ → Counters → Counters
erred k c = record { errors = more k c.errors; delimiters = c.delimiters; assembled = c.assembled; fragments = c.fragments }

-- a delimiter error
abbrev pub strayed : Counters → Counters
strayed c = record { errors = c.errors; delimiters = more 1 c.delimiters; assembled = c.assembled; fragments = c.fragments }

-- a continuation kept
abbrev pub joined : Counters → Counters
joined c = record { errors = c.errors; delimiters = c.delimiters; assembled = c.assembled; fragments = more 1 c.fragments }

-- a continuation that completes its frame, which took two or more mFrames
abbrev pub completed : Counters → Counters
completed c = record { errors = c.errors; delimiters = c.delimiters; assembled = more 1 c.assembled; fragments = more 1 c.fragments }
