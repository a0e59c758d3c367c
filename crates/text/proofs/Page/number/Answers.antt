-- `text::Page::number` meets its contract.
use mathlib.Core.Path.{◌∙◌}
use native.Mathlib.Omega.{arith}
use lib.ListN.{length-take}
use Rattle.text.proofs.Laws.{fewest_digits, fewest_most}
use Rattle.text.proofs.Page.number.Goals as goal

pub words-requires : goal.words-requires
words-requires c =
    let d = c.decimal-k in
    let few = fewest_most 20 d.result c.args.n (omega arith) (omega arith) d.ensures.len in
    omega (arith, length-take d.result d.new.out)

pub returns : goal.returns
returns c =
    let d = c.decimal-k.ensures in
    let e = d.digits ∙ fewest_digits 20 _ c.args.n (fewest_most 20 _ c.args.n (omega arith) (omega arith) d.len) d.len in
    rw e at c.words.ensures
