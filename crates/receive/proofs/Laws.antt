-- Laws of the definitions: which answers have the data written, and that data written end within the buffer.
-- Assumes nothing.
use mathlib.Core.Path.{◌≡◌, refl, sym, ◌∙◌}
use mathlib.Core.Bool.{Bool, true, false, not, cond}
use mathlib.Core.List.{List}
use Prim.Native.Nat.{ℕ, ◌-◌, ◌≤◌}
use native.Mathlib.Omega.{arith}
use borrow.Author.Tests.{ltb-false, ne_eqb}
use lib.Dec.{ltb}
use lib.ListN.{length}
use Rattle.rules.proofs.Tests.{failed}
use Rattle.codes.specs.declared.FrameCount.{FrameCount}
use Rattle.codes.specs.declared.FragmentCount.{FragmentCount}
use Rattle.crc.specs.Crc.{all_ones}
use Rattle.endings.specs.Judge.{ending_of}
use Rattle.endings.specs.declared.Ending.{Ending}
use Rattle.endings.proofs.Endings.{Ends, ends}
use Rattle.endings.specs.declared.Ending.TheVariants.{Done, More, Damaged}
use Rattle.faults.specs.Faults.{fault_number}
use Rattle.mframe.specs.declared.Kind.{Kind}
use Rattle.mframe.specs.declared.Kind.TheVariants as K
use Rattle.faults.specs.declared.Fault.{Fault}
use Rattle.receiver_record.specs.declared.Record.{Record}
use Rattle.receiver_answers.specs.declared.Refusal.{Refusal}
use Rattle.receiver_answers.specs.declared.Refusal.TheVariants as R
use Rattle.receiver_answers.specs.declared.Drop.{Drop}
use Rattle.receiver_answers.specs.declared.Answer.{Answer}
use Rattle.receiver_answers.specs.declared.Answer.TheVariants as A
use Rattle.receiver_answers.specs.Answers.{refusal_number, drop_number, says, said}
use Rattle.receiver_answers.proofs.Numbers.{refusal_from_ten, drop_from_ten}
use Rattle.outcomes.specs.Outcomes.{Step, unchanged, abandoned}
use Rattle.assembly.specs.Steps.{express_of, heard_of, step_of}
use Rattle.starting.specs.Starting.{start_of}
use Rattle.continuing.specs.Continuing.{ended_of, unexpected, total_of, continuation_of}
use Rattle.receive.specs.Receive.{writes, keeps}

-- an answer that is a refusal or a drop writes nothing, and is no delivery
pub from_ten_writes : (n : ℕ) → 10 ≤ n → writes n ≡ false
from_ten_writes n h = simp (ne_eqb n 1 (λ e. omega arith), ne_eqb n 2 (λ e. omega arith))

pub refused_writes : (fault : Fault) → writes (fault_number fault) ≡ false
refused_writes fault = from_ten_writes (fault_number fault) (refusal_from_ten (R.Head fault))

pub refusal_writes : (why : Refusal) → false ≡ writes (refusal_number why)
refusal_writes why = sym (from_ten_writes (refusal_number why) (refusal_from_ten why))

pub drop_writes : (why : Drop) → false ≡ writes (drop_number why)
drop_writes why = sym (from_ten_writes (drop_number why) (drop_from_ten why))

-- the answers that keep the data are those whose number has them written
pub keeps_writes : (a : Answer) → keeps a ≡ writes (said a).number
keeps_writes (A.Express n) = refl
keeps_writes (A.Delivered n) = refl
keeps_writes (A.Kept n) = refl
keeps_writes A.VerifyHeard = refl
keeps_writes A.RespondHeard = refl
keeps_writes (A.Refused why) = refusal_writes why
keeps_writes (A.Dropped why) = drop_writes why

-- data that are written end behind their own number, within the longest body
abbrev pub Within : List ℕ → Step → Type 0
Within s p = writes p.said.number ≡ true → (length s - 4 ≤ p.said.detail) × (p.said.detail ≤ 1518)

module _ (s : List ℕ) (r : Record) where
  express_within : (e : Ending) → Within s (express_of e r)
  express_within (Done n) w = failed w
  express_within (More n running) w = failed w
  express_within Damaged w = failed w

  heard_within : (e : Ending) (k : ℕ) → writes k ≡ false → Within s (heard_of (says k 0) e r)
  heard_within (Done n) k q w = failed w
  heard_within (More n running) k q w = failed (sym q ∙ w)
  heard_within Damaged k q w = failed w

  start_within : length s ≤ 1522 → (f : FrameCount) (e : Ending) → Ends all_ones s e → Within s (start_of f e r)
  start_within h f (Done n) q w = (omega arith, omega arith)
  start_within h f (More n running) q w = (omega arith, omega arith)
  start_within h f Damaged q w = failed w

  ended_within : (e : Ending) → total_of s r ≤ 1518 → Within s (ended_of (total_of s r) e r)
  ended_within (Done n) h w = (omega arith, omega arith)
  ended_within (More n running) h w = (omega arith, omega arith)
  ended_within Damaged h w = failed w

  continuation_within : (f : FrameCount) (g : FragmentCount) → Within s (continuation_of f g s r)
  unfolding continuation_of
  continuation_within f g = go (not r.assembling) (unexpected f g r) (ltb 1518 (total_of s r)) refl
    where
      go : (x y z : Bool) → ltb 1518 (total_of s r) ≡ z
          → Within s (cond x (unchanged (says 22 0) r) (cond y (abandoned (says 23 0) r) (cond z (abandoned (says 24 0) r) (ended_of (total_of s r) (ending_of r.running s) r))))
      go true y z q w = failed w
      go false true z q w = failed w
      go false false true q w = failed w
      go false false false q w = ended_within (ending_of r.running s) (ltb-false _ _ q) w

  pub step_within : (kind : Kind) → length s ≤ 1522 → Within s (step_of kind s r)
  step_within K.Express h = express_within (ending_of all_ones s)
  step_within (K.Start f) h = start_within h f (ending_of all_ones s) (ends all_ones s)
  step_within (K.Continuation f g) h = continuation_within f g
  step_within K.Verify h = heard_within (ending_of all_ones s) 3 refl
  step_within K.Respond h = heard_within (ending_of all_ones s) 4 refl
