-- `seatport::streaming::seatport_end` meets its contract.
use mathlib.Core.Path.{refl, sym, ap, ◌∙◌}
use native.Mathlib.Omega.{arith}
use lib.ListN.{length}
use Rattle.receiver_answers.specs.Answers.{Said}
use Rattle.stream.proofs.Heard.{at_most}
use Rattle.stream_words.specs.State.{state_of, told}
use Rattle.stream_words.proofs.Laws.{passed, some, none}
use Rattle.seatport.proofs.Streamed.{refused_end, ended-long, ended}
use Rattle.seatport.proofs.streaming.seatport_end.Goals as goal

pub returns-in-Err : goal.returns-in-Err
returns-in-Err c =
    let a = c.args in
    refused_end a.stream.now a.area.now a.receiver.now a.buffer.now (λ z. some c.in-Err.refusal (sym c.number.ensures ∙ z))
    (c.number.ensures ∙ sym (ap told c.in-Err.is) ∙ c.refusal.ensures)

pub slice_bounds-kept-end : goal.slice_bounds-kept-end
slice_bounds-kept-end c =
    let a = c.args in
    let p = passed a.stream.now (length a.area.now) (sym c.refusal.ensures ∙ none c.refusal.result c.in_default.not-Err) in
    let w = at_most (state_of a.stream.now) p.sound in
    omega (arith, p.roomy, w)

pub returns-then-runs_over : goal.returns-then-runs_over
returns-then-runs_over c =
    let a = c.args in
    ended-long a.stream.now a.area.now a.receiver.now a.buffer.now (sym c.refusal.ensures ∙ none c.refusal.result c.in_default.not-Err)
    (sym c.runs_over.ensures ∙ c.if-runs_over.true) refl c.too_long.ensures.1
    (c.number-then-runs_over.ensures ∙ ap (λ (s : Said). s.number) c.too_long.ensures.0)

pub returns : goal.returns
returns c =
    let a = c.args in
    ended a.stream.now a.area.now a.receiver.now a.buffer.now (sym c.refusal.ensures ∙ none c.refusal.result c.in_default.not-Err)
    (sym c.runs_over.ensures ∙ c.if-runs_over.false) refl c.seatport_receive.ensures
