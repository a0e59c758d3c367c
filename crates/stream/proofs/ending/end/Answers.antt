-- `stream::ending::end` meets its contract.
use mathlib.Core.Path.{sym, ◌∙◌}
use native.Mathlib.Omega.{arith}
use Rattle.stream.proofs.Heard.{at_most, ended-long, ended}
use Rattle.stream.proofs.ending.end.Goals as goal

pub slice_bounds-kept-end : goal.slice_bounds-kept-end
slice_bounds-kept-end c =
    let w = at_most c.args.state c.requires.1 in
    omega arith

pub returns-then-runs_over : goal.returns-then-runs_over
returns-then-runs_over c =
    let a = c.args in
    ended-long a.state c.requires.1 a.area.now c.requires.0 a.«record» a.buffer.now {why = c.too_long.result}
    (sym c.runs_over.ensures ∙ c.if-runs_over.true) c.too_long.ensures

pub returns : goal.returns
returns c =
    let a = c.args in
    ended a.state c.requires.1 a.area.now c.requires.0 a.«record» (sym c.runs_over.ensures ∙ c.if-runs_over.false)
    c.receive.ensures
