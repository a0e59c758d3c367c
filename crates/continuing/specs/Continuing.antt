-- What a continuation is answered and what becomes of the record (document 01, "Receiving"), in the paper's numbers. Assumes nothing.
use Rattle.std.specs.Prelude.{Bool, not, cond, ◌&&◌, List, ℕ, ◌+◌, ◌-◌, eqb, ltb, length}
use Rattle.codes.specs.Codes.{next_fragment}
use Rattle.codes.specs.declared.FrameCount.{FrameCount}
use Rattle.codes.specs.declared.FragmentCount.{FragmentCount}
use Rattle.endings.specs.Judge.{ending_of}
use Rattle.endings.specs.declared.Ending.{Ending}
use Rattle.endings.specs.declared.Ending.TheVariants.{Done, More, Damaged}
use Rattle.receiver_answers.specs.Answers.{says}
use Rattle.receiver_record.specs.declared.Record.{Record}
use Rattle.counters.specs.Counters.{joined, completed}
use Rattle.receiver_record.specs.Records.{shut, opened}
use Rattle.outcomes.specs.Outcomes.{Step, unchanged, abandoned}

-- 1: "preemptable delivered .. not assembling after", with the octets kept and the data so many in all
abbrev pub delivered_of : ℕ → Record → Step
delivered_of total r = record { said = says 1 total; after = shut (completed r.counters) }

-- 2: "fragment kept", with the register after it
abbrev pub kept_of : ℕ → ℕ → Record → Step
kept_of total running r = record { said = says 2 total; after = opened r.frame (next_fragment r.fragment) total running (joined r.counters) }

-- a continuation that passed 22, 23 and 24
abbrev pub ended_of : ℕ → Ending → Record → Step
ended_of total (Done n) r = delivered_of total r
ended_of total (More n running) r = kept_of total running r
ended_of total Damaged r = abandoned (says 25 0) r

-- 23: "frame or fragment count not the expected"
abbrev pub unexpected : FrameCount → FragmentCount → Record → Bool
unexpected frame fragment r = not (eqb frame.0 r.frame.0 && eqb fragment.0 r.fragment.0)

-- 24: "octets kept plus this data"; the last four octets are no data
abbrev pub total_of : List ℕ → Record → ℕ
total_of octets r = r.kept + (length octets - 4)

-- "a C tests 22, 23, 24, 25"; its check goes on from the running CRC
unfoldable pub continuation_of : FrameCount → FragmentCount → List ℕ → Record → Step
continuation_of frame fragment octets r =
    cond (not r.assembling) (unchanged (says 22 0) r)
    (cond (unexpected frame fragment r) (abandoned (says 23 0) r)
    (cond (ltb 1518 (total_of octets r)) (abandoned (says 24 0) r) (ended_of (total_of octets r) (ending_of r.running octets) r)))
