-- The record of link verification as document 01, "Verification", lays it down, with the wait of document 02, (v): the fresh one, the phases, and the
-- ranges.
-- Assumes nothing.
use Rattle.std.specs.Prelude.{Bool, true, false, cond, ◌&&◌, ℕ, leb}
use Rattle.verify_record.specs.declared.Phase.{Phase}
use Rattle.verify_record.specs.declared.Phase.TheVariants.{Off, Trying, Verified, Failed}
use Rattle.verify_record.specs.declared.Record.{Record}

-- "IEEE 802.3br allows 1 to 128"
abbrev pub longest : ℕ
longest = 128

unfoldable pub is_wait : ℕ → Bool
is_wait n = leb 1 n && leb n longest

-- "attempt 1 to 3"
abbrev pub attempts : ℕ
attempts = 3

-- "Fresh is off, nothing owed"; the wait that it keeps is 10
abbrev pub fresh : Record
fresh = record { phase = Off; attempt = 0; left = 0; owed = false; wait = 10 }

abbrev pub is_off : Phase → Bool
is_off Off = true
is_off Trying = false
is_off Verified = false
is_off Failed = false

abbrev pub is_trying : Phase → Bool
is_trying Off = false
is_trying Trying = true
is_trying Verified = false
is_trying Failed = false

-- whether attempt and milliseconds left are at least the least and at most their most
unfoldable pub counted : ℕ → ℕ → ℕ → Record → Bool
counted least k n r = leb least r.attempt && (leb r.attempt k && (leb least r.left && leb r.left n))

-- "trying (attempt 1 to 3, milliseconds left 1 to" the wait ")"; "Outside trying, attempt and milliseconds left are 0"; "a kept wait not 1 to 128 is 40"
abbrev pub in_range : Record → Bool
in_range r = is_wait r.wait && cond (is_trying r.phase) (counted 1 attempts r.wait r) (counted 0 0 0 r)
