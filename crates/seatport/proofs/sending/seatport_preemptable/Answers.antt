-- `seatport::sending::seatport_preemptable` meets its contract.
use mathlib.Core.Path.{refl, sym, subst}
use lib.ListN.{length}
use Rattle.std.proofs.lemmas.Bool.{false_from_ne_true}
use Rattle.sent_words.specs.Sent.{Short}
use Rattle.seatport.specs.Sending.{sending_of}
use Rattle.rules.proofs.Tests.{tests}
use Rattle.seatport.proofs.Sent.{sent_words}
use Rattle.seatport.proofs.Short.{Fits, sent_short, after_short}
use Rattle.seatport.proofs.sending.seatport_preemptable.Goals as goal

pub returns-then-out-lt-OUTPUT_LEAST : goal.returns-then-out-lt-OUTPUT_LEAST
unfolding sending_of
returns-then-out-lt-OUTPUT_LEAST c =
    let unfit = false_from_ne_true _ c.in_default.ensures.value in
    let t0 = c.if-out-lt-OUTPUT_LEAST.true in
    simp (unfit, tests) (record { answer = c.number.ensures; words = refl; after = refl; octets = refl })

pub returns-else-out-lt-OUTPUT_LEAST : goal.returns-else-out-lt-OUTPUT_LEAST
unfolding sending_of
returns-else-out-lt-OUTPUT_LEAST c =
    let unfit = false_from_ne_true _ c.in_default.ensures.value in
    let t0 = c.if-out-lt-OUTPUT_LEAST.false in
    simp (unfit, tests) (record { answer = c.number-else-out-lt-OUTPUT_LEAST.ensures; words = refl; after = refl; octets = refl })

pub sender_words-requires : goal.sender_words-requires
sender_words-requires c =
    let a = c.args in
    let r = c.in-Some.ensures.short in
    let f = subst Fits (sym c.preemptable-sent.ensures.after) (after_short c.in-Some.record a.body.now c.ask_of.result (length a.out.now) (record { length = r.0; sent = r.1 })) in
    (f.length, f.sent)

pub written_of-requires : goal.written_of-requires
written_of-requires c =
    let a = c.args in
    subst Short (sym c.preemptable-sent.ensures.answer) (sent_short c.in-Some.record a.body.now c.ask_of.result (length a.out.now))

pub returns : goal.returns
unfolding sending_of
returns c =
    let read = c.in-Some.ensures.value in
    let h = sent_words c.preemptable-sent.ensures c.number_of.ensures c.written_of.ensures c.sender_words.ensures in
    simp (read.0, ← read.1, ← c.ask_of.ensures) h
