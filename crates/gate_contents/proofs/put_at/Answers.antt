-- `gate_contents::put_at` meets its contract.
use mathlib.Core.Path.{◌≡◌, ap, ◌∙◌}
use native.Mathlib.Omega.{arith}
use borrow.Author.Rules.{rules}
use borrow.Rule.Slice.PartMut.{put_mid}
use lib.ListN.{length}
use Rattle.gate_contents.proofs.Turns.{copied}
use Rattle.gate_contents.proofs.put_at.Goals as goal

pub returns : goal.returns
returns c =
    let a = c.args in
    let seven : length a.octets ≡ 7 = search rules in
    ap (put_mid a.at _ a.list.now) c.copy_from_slice.ensures.after ∙ copied a.octets a.list.now a.at _ (omega arith)
