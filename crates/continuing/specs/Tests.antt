-- What the answers of a continuation's tests 22, 23, 24 and 25 mean. Assumes nothing.
use Rattle.std.specs.Prelude.{◌≡◌, Bool, true, false, ℕ, ◌≤◌, ◌<◌, Option, Some, None}
use Rattle.codes.specs.declared.FrameCount.{FrameCount}
use Rattle.codes.specs.declared.FragmentCount.{FragmentCount}
use Rattle.endings.specs.declared.Ending.{Ending}
use Rattle.endings.specs.declared.Ending.TheVariants as E
use Rattle.receiver_record.specs.declared.Record.{Record}
use Rattle.outcomes.specs.Outcomes.{Step}
use Rattle.continuing.specs.declared.Assembly.{Assembly}
use Rattle.continuing.specs.declared.Counts.{Counts}
use Rattle.continuing.specs.declared.Counts.TheVariants as C
use Rattle.continuing.specs.declared.Rest.{Rest}
use Rattle.continuing.specs.declared.Rest.TheVariants as L
use Rattle.continuing.specs.Continuing.{delivered_of, kept_of}

-- an assembly that is open, with what the record says of it
pub record Opened (r : Record) (frame : FrameCount) (fragment : FragmentCount) (kept running : ℕ) : Type 0 where
  pub assembling : r.assembling ≡ true
  pub frame_is : frame ≡ r.frame
  pub fragment_is : fragment ≡ r.fragment
  pub kept_is : kept ≡ r.kept
  pub running_is : running ≡ r.running

-- 22
abbrev pub Assembled : Record → Option Assembly → Type 0
Assembled r (Some a) = Opened r a.frame a.fragment a.kept a.running
Assembled r None = r.assembling ≡ false

-- 23
abbrev pub other : Counts → Bool
other C.Expected = false
other C.Other = true

-- 24: the octets kept and the data, so many in all
abbrev pub Fits : ℕ → Option ℕ → Type 0
Fits total (Some n) = (n ≡ total) × (total ≤ 1518)
Fits total None = 1518 < total

-- 25: the last four octets by what they say of the frame
abbrev pub check_of : Ending → Option Rest
check_of (E.Done n) = Some L.Done
check_of (E.More n running) = Some (L.More running)
check_of E.Damaged = None

-- one that passed them all
abbrev pub taken_of : ℕ → Rest → Record → Step
taken_of total L.Done r = delivered_of total r
taken_of total (L.More running) r = kept_of total running r
