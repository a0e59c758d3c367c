-- The part of a preemptable frame that goes now (document 01, "Sending"): where it ends, and its kind. Assumes nothing.
use Rattle.std.specs.Prelude.{◌≡◌, Bool, true, false, cond, ℕ, ◌+◌, ◌≤◌, eqb, Option, Some, None}
use Rattle.codes.specs.Codes.{last_frame}
use Rattle.cut.specs.Cut.{minimum, part_of}
use Rattle.mframe.specs.declared.Kind.{Kind}
use Rattle.mframe.specs.declared.Kind.TheVariants.{Express, Start, Continuation}
use Rattle.sender_record.specs.declared.Record.{Record}
use Rattle.sender_part.specs.declared.End.{End}

-- the part that goes now of a body of n octets: L is body plus 4; where the port is not active, "ask and hold are ignored" and all goes
unfoldable pub part_now : Record → ℕ → Option ℕ → Option ℕ
part_now r n ask = cond r.active (part_of (n + 4) r.sent (minimum r.extra) ask) None

-- the octets sent after that, of n with s sent before; whether the frame is done
abbrev pub end_of : ℕ → ℕ → Option ℕ → ℕ
end_of s n None = n
end_of s n (Some k) = s + k

abbrev pub is_done : Option ℕ → Bool
is_done None = true
is_done (Some k) = false

-- "a frame not yet begun goes whole with delimiter E" where the port is not active, else with S; "one in progress runs .. as a
-- continuation", which "carries the count before" the next one
unfoldable pub kind_of : Record → Kind
kind_of r =
    cond (eqb r.length 0) (cond r.active (Start r.next) Express) (Continuation (last_frame r.next) r.fragment)

-- where a part ends, and that this lies in the body
pub record Ends (r : Record) (n : ℕ) (p : Option ℕ) (e : End) : Type 0 where
  pub end : e.to ≡ end_of r.sent n p
  pub done : e.done ≡ is_done p
  pub onward : r.sent ≤ e.to
  pub within : e.to ≤ n
