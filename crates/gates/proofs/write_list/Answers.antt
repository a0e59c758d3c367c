-- `gates::write_list` meets its contract.
use mathlib.Core.Path.{◌≡◌, sym, ap, ◌∙◌}
use mathlib.Core.List.{List}
use Prim.Native.Nat.{ℕ, ◌*◌}
use native.Mathlib.Omega.{arith}
use lib.ListN.{length}
use Rattle.gate_entries.specs.Entries.{size, Entry}
use Rattle.gate_lists.specs.Lists.{good, of_entries, octets_of_all}
use Rattle.gate_lists.proofs.Contents.{length_all}
use Rattle.gate_lists.proofs.Good.{entries_good}
use Rattle.gates.proofs.Laws.{met_short, met_good}
use Rattle.gates.proofs.write_list.Goals as goal

-- seven octets for each of the entries
octets-of : (es : List Entry) (n : ℕ) → of_entries es ≡ good n → n * size ≡ length (octets_of_all es)
octets-of es n g = ap (λ (k : ℕ). k * size) (entries_good es n g).all ∙ sym (length_all es)

pub overflow_mul-octets : goal.overflow_mul-octets
overflow_mul-octets c = omega (arith, (entries_good c.args.entries.now _ (sym c.in_ok-n.ensures)).bound)

pub returns-then-list-octets : goal.returns-then-list-octets
returns-then-list-octets c =
    let a = c.args in
    let g = sym c.in_ok-n.ensures in
    let l = octets-of a.entries.now _ g in
    met_short (octets_of_all a.entries.now) a.list.now _ _ _ g l (omega (arith, c.if-list-octets.true, l))

pub put_octets-requires : goal.put_octets-requires
put_octets-requires c =
    let g = sym c.in_ok-n.ensures in
    let all = (entries_good c.args.entries.now _ g).all in
    (g ∙ ap good all, omega (arith, c.if-list-octets.false, all))

pub returns : goal.returns
returns c =
    let a = c.args in
    let g = sym c.in_ok-n.ensures in
    let l = octets-of a.entries.now _ g in
    met_good (octets_of_all a.entries.now) a.list.now _ _ _ g l (omega (arith, c.if-list-octets.false, l)) c.put_octets.ensures
