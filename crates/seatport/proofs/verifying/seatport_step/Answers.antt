-- `seatport::verifying::seatport_step` meets its contract.
use mathlib.Core.Path.{refl}
use Rattle.std.proofs.lemmas.Bool.{false_from_ne_true}
use Rattle.seatport.specs.Verifying.{verifying_of}
use Rattle.seatport.proofs.Stepped.{taken_words}
use Rattle.seatport.proofs.verifying.seatport_step.Goals as goal

pub returns-in_default : goal.returns-in_default
unfolding verifying_of
returns-in_default c =
    simp (false_from_ne_true _ c.in_default.ensures) (record { answer = c.number-unfit.ensures; value = refl; after = refl })

pub returns-in_default-event_at : goal.returns-in_default-event_at
unfolding verifying_of
returns-in_default-event_at c =
    simp (c.in-Some.ensures.0, false_from_ne_true _ c.in_default-event_at.ensures) (record { answer = c.number-unfit.ensures; value = refl; after = refl })

pub returns : goal.returns
unfolding verifying_of
returns c =
    let read = c.in-Some.ensures in
    let event = c.in-Some-event_at.ensures in
    let h = taken_words c.step-stepped.result c.step-stepped.ensures c.number_of.ensures c.ordered_of.ensures c.link_words.ensures in
    simp (read.0, event.0, ← read.1, ← event.1) h
