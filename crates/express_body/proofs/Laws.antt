-- With a fresh record, answer 0 is given to express mFrames with a right FCS and to no others.
-- Assumes nothing.
use mathlib.Core.Path.{◌≡◌, refl}
use mathlib.Core.Bool.{false}
use mathlib.Core.List.{List}
use Prim.Native.Nat.{ℕ}
use lib.Dec.{eqb}
use Rattle.codes.specs.declared.FrameCount.{FrameCount}
use Rattle.crc.specs.Crc.{all_ones}
use Rattle.endings.specs.Judge.{ending_of}
use Rattle.endings.specs.declared.Ending.{Ending}
use Rattle.endings.specs.declared.Ending.TheVariants.{Done, More, Damaged}
use Rattle.mframe.specs.declared.Kind.{Kind}
use Rattle.mframe.specs.declared.Kind.TheVariants as K
use Rattle.receiver_answers.specs.Answers.{Said, says}
use Rattle.receiver_record.specs.Records.{fresh}
use Rattle.assembly.specs.Steps.{express_of, heard_of, step_of}
use Rattle.starting.specs.Starting.{start_of}
use Rattle.continuing.specs.Continuing.{continuation_of}
use Rattle.express_body.specs.Body.{is_done, express_delivered}

-- which mFrames are answered 0 with a fresh record: an express one whose FCS is right, and no other
express_zero : (e : Ending) → eqb (express_of e fresh).said.number 0 ≡ is_done e
express_zero (Done n) = refl
express_zero (More n running) = refl
express_zero Damaged = refl

start_zero : (f : FrameCount) (e : Ending) → eqb (start_of f e fresh).said.number 0 ≡ false
start_zero f (Done n) = refl
start_zero f (More n running) = refl
start_zero f Damaged = refl

heard_zero : (s : Said) (e : Ending) → eqb s.number 0 ≡ false → eqb (heard_of s e fresh).said.number 0 ≡ false
heard_zero s (Done n) h = refl
heard_zero s (More n running) h = h
heard_zero s Damaged h = refl

pub zero_delivers : (kind : Kind) (s : List ℕ) → eqb (step_of kind s fresh).said.number 0 ≡ express_delivered kind s
unfolding continuation_of
zero_delivers K.Express s = express_zero (ending_of all_ones s)
zero_delivers (K.Start f) s = start_zero f (ending_of all_ones s)
zero_delivers (K.Continuation f g) s = refl
zero_delivers K.Verify s = heard_zero (says 3 0) (ending_of all_ones s) refl
zero_delivers K.Respond s = heard_zero (says 4 0) (ending_of all_ones s) refl
