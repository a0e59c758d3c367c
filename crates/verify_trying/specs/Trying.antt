-- The rows of enable, R heard and millisecond in document 01's table of events, "Verification", with the wait of document 02, (v).
-- Assumes nothing.
use Rattle.std.specs.Prelude.{true, false, cond, ℕ, ◌+◌, ◌-◌, ltb, eqb}
use Rattle.verify_record.specs.Ranges.{attempts, is_wait, is_off, is_trying}
use Rattle.verify_record.specs.declared.Phase.{Phase}
use Rattle.verify_record.specs.declared.Phase.TheVariants.{Trying, Verified, Failed}
use Rattle.verify_record.specs.declared.Record.{Record}
use Rattle.verify_answers.specs.Answers.{Told, takes, refuses}

-- the record in a phase other than trying
abbrev pub rests : Phase → Record → Record
rests p r = record { phase = p; attempt = 0; left = 0; owed = r.owed; wait = r.wait }

-- the record in trying, at an attempt with so many milliseconds left
abbrev pub tries : ℕ → ℕ → Record → Record
tries k n r = record { phase = Trying; attempt = k; left = n; owed = r.owed; wait = r.wait }

-- the record that keeps this wait
abbrev pub keeping : ℕ → Record → Record
keeping n r = record { phase = r.phase; attempt = r.attempt; left = r.left; owed = r.owed; wait = n }

-- "Enable carries the wait; the record keeps it .. when off becomes trying"
abbrev pub begun : ℕ → Record → Record
begun n r = tries 1 n (keeping n r)

-- "at 0, attempts 1 and 2 order V and start the next with" the wait ", attempt 3 becomes failed"
unfoldable pub at_zero : Record → Told
at_zero r = cond (ltb r.attempt attempts) (takes (tries (r.attempt + 1) r.wait r) true) (takes (rests Failed r) false)

-- "one less left; at 0, .."
unfoldable pub one_less : Record → Told
one_less r = cond (eqb (r.left - 1) 0) (at_zero r) (takes (tries r.attempt (r.left - 1) r) false)

-- "off becomes trying .. V ordered; else nothing"; "41, enable's wait not 1 to 128"
abbrev pub enabled : ℕ → Record → Told
enabled n r = cond (is_wait n) (cond (is_off r.phase) (takes (begun n r) true) (takes r false)) (refuses 41 r)

-- "trying becomes verified; else nothing"
abbrev pub heard : Record → Told
heard r = cond (is_trying r.phase) (takes (rests Verified r) false) (takes r false)

-- "trying: one less left; .."
abbrev pub ticked : Record → Told
ticked r = cond (is_trying r.phase) (one_less r) (takes r false)
