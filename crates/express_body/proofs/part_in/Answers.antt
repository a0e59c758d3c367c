-- `express_body::part_in` meets its contract.
use native.Mathlib.Omega.{arith}
use Rattle.receive.proofs.Known.{spacious}
use Rattle.express_body.proofs.Promise.{no_part, body, other}
use borrow.Author.Rules.{rules}
use Rattle.express_body.proofs.part_in.Goals as goal

pub returns-in_default : goal.returns-in_default
returns-in_default c = no_part _ c.head_of.ensures c.in_default.is

pub slice_bounds-delivers_express-count : goal.slice_bounds-delivers_express-count
slice_bounds-delivers_express-count c =
    let w = spacious c.args.mframe.now c.head_of.ensures c.in-Ok.is in
    omega arith

pub slice_bounds-delivers_express-start : goal.slice_bounds-delivers_express-start
slice_bounds-delivers_express-start c =
    let w = spacious c.args.mframe.now c.head_of.ensures c.in-Ok.is in
    search rules

pub overflow_sub-end : goal.overflow_sub-end
overflow_sub-end c =
    let w = spacious c.args.mframe.now c.head_of.ensures c.in-Ok.is in
    omega arith

pub overflow_sub-result : goal.overflow_sub-result
overflow_sub-result c =
    let w = spacious c.args.mframe.now c.head_of.ensures c.in-Ok.is in
    omega arith

pub returns-then-delivers_express : goal.returns-then-delivers_express
returns-then-delivers_express c =
    body _ c.head_of.ensures c.in-Ok.is c.delivers_express.ensures c.if-delivers_express.true

pub returns : goal.returns
returns c =
    other _ c.head_of.ensures c.in-Ok.is c.delivers_express.ensures c.if-delivers_express.false
