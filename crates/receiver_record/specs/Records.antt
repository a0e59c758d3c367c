-- The receiving record (document 01, "Receiving"). Assumes nothing.
use Rattle.std.specs.Prelude.{Bool, true, false, cond, ◌&&◌, ℕ, eqb, leb}
use Rattle.codes.specs.Codes.{frame, fragment}
use Rattle.codes.specs.declared.FrameCount.{FrameCount}
use Rattle.codes.specs.declared.FragmentCount.{FragmentCount}
use Rattle.counters.specs.declared.Counters.{Counters}
use Rattle.receiver_record.specs.declared.Record.{Record}

-- "Not assembling means the four middle fields are 0"
abbrev pub shut : Counters → Record
shut c = record { assembling = false; frame = frame 0; fragment = fragment 0; kept = 0; running = 0; counters = c }

-- assembling: the frame's count, the next fragment count, the octets kept and the running CRC
abbrev pub opened : FrameCount → FragmentCount → ℕ → ℕ → Counters → Record
opened f g n running c = record { assembling = true; frame = f; fragment = g; kept = n; running = running; counters = c }

-- the record with other counters
abbrev pub counting : Counters → Record → Record
counting c r = record { assembling = r.assembling; frame = r.frame; fragment = r.fragment; kept = r.kept; running = r.running; counters = c }

-- "Fresh is all 0, not assembling"
abbrev pub fresh : Record
fresh = shut (record { errors = 0; delimiters = 0; assembled = 0; fragments = 0 })

-- 11: "Not assembling means the four middle fields are 0; assembling means counts 0 to 3 and 60 to 1,518 octets kept"
unfoldable pub in_range : Record → Bool
in_range r =
    cond r.assembling
    (leb r.frame.0 3 && (leb r.fragment.0 3 && (leb 60 r.kept && leb r.kept 1518)))
    (eqb r.frame.0 0 && (eqb r.fragment.0 0 && (eqb r.kept 0 && eqb r.running 0)))
