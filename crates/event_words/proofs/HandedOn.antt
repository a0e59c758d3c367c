-- An answer of the receiver can be handed on as an event, whatever wait stands beside it: a V or an R heard is that event, and no other answer is an
-- event.
-- Assumes nothing.
use mathlib.Core.Path.{◌≡◌, refl}
use mathlib.Core.Bool.{false}
use Prim.Native.Nat.{ℕ}
use Rattle.faults.specs.Faults.{fault_number}
use Rattle.faults.specs.declared.Fault.{Fault}
use Rattle.faults.specs.declared.Fault.TheVariants as F
use Rattle.receiver_answers.specs.Answers.{refusal_number, drop_number, said}
use Rattle.receiver_answers.specs.declared.Answer.{Answer}
use Rattle.receiver_answers.specs.declared.Answer.TheVariants as A
use Rattle.receiver_answers.specs.declared.Drop.{Drop}
use Rattle.receiver_answers.specs.declared.Drop.TheVariants as D
use Rattle.receiver_answers.specs.declared.Refusal.{Refusal}
use Rattle.receiver_answers.specs.declared.Refusal.TheVariants as R
use Rattle.event_words.specs.Events.{is_event}
use Rattle.event_words.specs.HandedOn.{event_at, heard_by}

no_fault : (why : Fault) → is_event (fault_number why) ≡ false
unfolding is_event
no_fault F.Short = refl
no_fault F.Long = refl
no_fault F.Preamble = refl
no_fault (F.Delimiter bits) = refl
no_fault F.Fragment = refl

no_refusal : (why : Refusal) → is_event (refusal_number why) ≡ false
unfolding is_event
no_refusal R.Buffer = refl
no_refusal R.Record = refl
no_refusal (R.Head why) = no_fault why

no_drop : (why : Drop) → is_event (drop_number why) ≡ false
unfolding is_event
no_drop D.Express = refl
no_drop D.Heard = refl
no_drop D.Closed = refl
no_drop D.Count = refl
no_drop D.Over = refl
no_drop D.Damaged = refl

pub handed_on : (a : Answer) (wait : ℕ) → event_at (said a).number wait ≡ heard_by a
unfolding is_event
handed_on (A.Express n) wait = refl
handed_on (A.Delivered n) wait = refl
handed_on (A.Kept n) wait = refl
handed_on A.VerifyHeard wait = refl
handed_on A.RespondHeard wait = refl
handed_on (A.Refused why) wait = simp (no_refusal why)
handed_on (A.Dropped why) wait = simp (no_drop why)
