-- Histories of link verification: events one after the other, from a record on, and what is counted in them.
-- Assumes nothing.
use Rattle.std.specs.Prelude.{◌≡◌, Bool, cond, ◌&&◌, List, [], ◌∷◌, ◌++◌, ℕ, ◌+◌, eqb}
use Rattle.verify_record.specs.Ranges.{is_wait, is_off}
use Rattle.verify_record.specs.declared.Phase.TheVariants.{Trying}
use Rattle.verify_record.specs.declared.Record.{Record}
use Rattle.verify.specs.Verify.{step_of}
use Rattle.verify.specs.declared.Event.{Event}
use Rattle.verify.specs.declared.Event.TheVariants.{Enable, Disable, LinkFailed, ResponseHeard, VerifyHeard, ResponseSent, Millisecond}

-- the record after a history
unfoldable pub record_after : Record → List Event → Record
record_after r [] = r
record_after r (e ∷ es) = record_after (step_of r e).after es

-- an event's row in the table, and whether two events are of the same row
abbrev pub row : Event → ℕ
row (Enable n) = 1
row Disable = 2
row LinkFailed = 3
row ResponseHeard = 4
row VerifyHeard = 5
row ResponseSent = 6
row Millisecond = 7

abbrev pub is : Event → Event → Bool
is a e = eqb (row a) (row e)

-- what holds counts as one
abbrev pub one : Bool → ℕ
one b = cond b 1 0

-- how often an event comes in a history
unfoldable pub times : Event → List Event → ℕ
times a [] = 0
times a (e ∷ es) = one (is a e) + times a es

-- how many V a history orders
unfoldable pub verifies : Record → List Event → ℕ
verifies r [] = 0
verifies r (e ∷ es) = one (step_of r e).said.ordered + verifies (step_of r e).after es

-- the wait that an event carries; only enable has one, and 0 is none
abbrev pub carried : Event → ℕ
carried (Enable n) = n
carried Disable = 0
carried LinkFailed = 0
carried ResponseHeard = 0
carried VerifyHeard = 0
carried ResponseSent = 0
carried Millisecond = 0

-- how often a history begins trying: the enables in off with a wait of 1 to 128
abbrev pub begins : Record → Event → Bool
begins r e = is_wait (carried e) && is_off r.phase

unfoldable pub beginnings : Record → List Event → ℕ
beginnings r [] = 0
beginnings r (e ∷ es) = one (begins r e) + beginnings (step_of r e).after es

-- the wait of the last enable that began trying, or, where none did, the one before
unfoldable pub last_wait : ℕ → Record → List Event → ℕ
last_wait n r [] = n
last_wait n r (e ∷ es) = last_wait (cond (begins r e) (carried e) n) (step_of r e).after es

-- a history in which an R was heard in trying, and since then neither disable nor link failed came
pub record HeardInTrying (r : Record) (es : List Event) : Type 0 where
  pub before : List Event
  pub since : List Event
  pub history : es ≡ before ++ (ResponseHeard ∷ since)
  pub trying : (record_after r before).phase ≡ Trying
  pub kept : times Disable since + times LinkFailed since ≡ 0
