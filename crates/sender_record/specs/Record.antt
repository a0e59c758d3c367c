-- The sending record and its ranges (document 01, "Sending"). Assumes nothing.
use Rattle.std.specs.Prelude.{Bool, ◌&&◌, ◌||◌, not, ℕ, ◌+◌, eqb, leb}
use Rattle.codes.specs.Codes.{frame, fragment}
use Rattle.sender_record.specs.declared.Record.{Record}

-- "Fresh means both counts 0 and no frame in progress"
abbrev pub fresh_of : Bool → Bool → ℕ → Record
fresh_of active hold extra =
    record { active = active; hold = hold; extra = extra; next = frame 0; length = 0; sent = 0; fragment = fragment 0 }

-- no frame in progress: "all three 0 when none"
unfoldable pub idle : Record → Bool
idle r = eqb r.length 0 && (eqb r.sent 0 && eqb r.fragment.0 0)

-- "else length 60 to 1,518, sent 60 to length minus 60, fragment count 0 to 3"
unfoldable pub going : Record → Bool
going r = leb 60 r.length && (leb r.length 1518 && (leb 60 r.sent && (leb (r.sent + 60) r.length && leb r.fragment.0 3)))

-- the ranges that 31 tests: extra 0 to 3, next frame count 0 to 3, and a frame in progress or none
unfoldable pub in_range : Record → Bool
in_range r = leb r.extra 3 && (leb r.next.0 3 && (idle r || going r))

-- 33: "body length differs from the frame in progress"
unfoldable pub differs : Record → ℕ → Bool
differs r n = not (eqb r.length 0) && not (eqb r.length n)

-- 34: "active, hold set, preemptable call"
abbrev pub held : Record → Bool
held r = r.active && r.hold
