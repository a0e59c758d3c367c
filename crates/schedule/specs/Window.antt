-- How much of a list can matter.
-- Assumes nothing.
use Rattle.std.specs.Prelude.{ℕ}

-- 256 entries of seven octets, and behind them a header of two and the longest value, of 255
abbrev pub enough_octets : ℕ
enough_octets = 2049
