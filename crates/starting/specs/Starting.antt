-- What a start is answered and what becomes of the record (document 01, "Receiving"), in the paper's numbers. Assumes nothing.
use Rattle.std.specs.Prelude.{Bool, true, false, ℕ, ◌+◌}
use Rattle.codes.specs.Codes.{fragment}
use Rattle.codes.specs.declared.FrameCount.{FrameCount}
use Rattle.endings.specs.declared.Ending.{Ending}
use Rattle.endings.specs.declared.Ending.TheVariants.{Done, More, Damaged}
use Rattle.receiver_answers.specs.Answers.{says}
use Rattle.receiver_record.specs.declared.Record.{Record}
use Rattle.counters.specs.Counters.{erred}
use Rattle.receiver_record.specs.Records.{shut, opened}
use Rattle.outcomes.specs.Outcomes.{Step}

-- one for an assembly that is open
abbrev pub one : Bool → ℕ
one true = 1
one false = 0

-- "A start always opens a fresh assembly; one still open is abandoned first." The first continuation is expected with fragment count 0
abbrev pub start_of : FrameCount → Ending → Record → Step
start_of frame (Done n) r = record { said = says 1 n; after = shut (erred (one r.assembling) r.counters) }
start_of frame (More n running) r = record { said = says 2 n; after = opened frame (fragment 0) n running (erred (one r.assembling) r.counters) }
start_of frame Damaged r = record { said = says 25 0; after = shut (erred (one r.assembling + 1) r.counters) }
