-- What an mFrame of known kind is answered and what becomes of the record (document 01, "Receiving"), in the paper's numbers.
-- Assumes nothing.
use Rattle.std.specs.Prelude.{List, ℕ}
use Rattle.crc.specs.Crc.{all_ones}
use Rattle.endings.specs.Judge.{ending_of}
use Rattle.endings.specs.declared.Ending.{Ending}
use Rattle.endings.specs.declared.Ending.TheVariants.{Done, More, Damaged}
use Rattle.mframe.specs.declared.Kind.{Kind}
use Rattle.mframe.specs.declared.Kind.TheVariants as K
use Rattle.receiver_answers.specs.Answers.{Said, says}
use Rattle.receiver_record.specs.declared.Record.{Record}
use Rattle.outcomes.specs.Outcomes.{Step, unchanged}
use Rattle.starting.specs.Starting.{start_of}
use Rattle.continuing.specs.Continuing.{continuation_of}

-- "For E only the FCS counts"
abbrev pub express_of : Ending → Record → Step
express_of (Done n) r = unchanged (says 0 n) r
express_of (More n running) r = unchanged (says 20 0) r
express_of Damaged r = unchanged (says 20 0) r

-- "for V and R only the mCRC", with the answer where they are heard
abbrev pub heard_of : Said → Ending → Record → Step
heard_of heard (Done n) r = unchanged (says 21 0) r
heard_of heard (More n running) r = unchanged heard r
heard_of heard Damaged r = unchanged (says 21 0) r

-- an mFrame by its kind, its data and check octets
abbrev pub step_of : Kind → List ℕ → Record → Step
step_of K.Express octets r = express_of (ending_of all_ones octets) r
step_of (K.Start frame) octets r = start_of frame (ending_of all_ones octets) r
step_of (K.Continuation frame fragment) octets r = continuation_of frame fragment octets r
step_of K.Verify octets r = heard_of (says 3 0) (ending_of all_ones octets) r
step_of K.Respond octets r = heard_of (says 4 0) (ending_of all_ones octets) r
