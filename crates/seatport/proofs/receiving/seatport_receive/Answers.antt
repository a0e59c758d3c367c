-- `seatport::receiving::seatport_receive` meets its contract.
use mathlib.Core.Path.{refl, sym, subst}
use Prim.Native.Nat.{ℕ, ◌<◌, ◌^◌}
use lib.ListN.{length}
use Rattle.std.proofs.lemmas.Bool.{false_from_ne_true}
use Rattle.seatport.specs.Receiving.{receiving_of}
use Rattle.rules.proofs.Tests.{tests}
use Rattle.seatport.proofs.Received.{Fits, received_fits, received_words}
use Rattle.seatport.proofs.receiving.seatport_receive.Goals as goal

pub returns-then-buffer-lt-BODY_MOST : goal.returns-then-buffer-lt-BODY_MOST
unfolding receiving_of
returns-then-buffer-lt-BODY_MOST c =
    let unfit = false_from_ne_true _ c.in_default.ensures.value in
    let t0 = c.if-buffer-lt-BODY_MOST.true in
    simp (unfit, tests) (record { answer = c.number.ensures; value = refl; after = refl; octets = refl })

pub returns-else-buffer-lt-BODY_MOST : goal.returns-else-buffer-lt-BODY_MOST
unfolding receiving_of
returns-else-buffer-lt-BODY_MOST c =
    let unfit = false_from_ne_true _ c.in_default.ensures.value in
    let t0 = c.if-buffer-lt-BODY_MOST.false in
    simp (unfit, tests) (record { answer = c.number-else-buffer-lt-BODY_MOST.ensures; value = refl; after = refl; octets = refl })

pub receiver_words-requires : goal.receiver_words-requires
receiver_words-requires c =
    let a = c.args in
    let f = received_fits c.in-Some.record c.in-Some.ensures.short a.mframe.now (length a.buffer.now) in
    (subst Fits (sym c.receive-got.ensures.step) f).kept

pub overflow_cast-detail : goal.overflow_cast-detail
overflow_cast-detail c =
    let a = c.args in
    let f = received_fits c.in-Some.record c.in-Some.ensures.short a.mframe.now (length a.buffer.now) in
    record { fits = subst (λ (n : ℕ). n < 2 ^ 32) (sym c.detail.ensures) (subst Fits (sym c.receive-got.ensures.step) f).detail }

pub returns : goal.returns
unfolding receiving_of
returns c =
    let read = c.in-Some.ensures.value in
    let h = received_words c.receive-got.ensures c.number-number.ensures c.detail.ensures c.receiver_words.ensures in
    simp (read.0, ← read.1, ← c.receive-got.ensures.octets) h
