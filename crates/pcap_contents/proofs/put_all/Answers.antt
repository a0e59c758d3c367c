-- `pcap_contents::put_all` meets its contract. The invariant: what is left, laid over the slice as it is now, makes the slice asked for.
use mathlib.Core.Path.{sym, ap, subst, ◌∙◌}
use mathlib.Core.List.{List}
use Prim.Native.Nat.{ℕ, ◌+◌, ◌-◌, ◌≤◌}
use native.Mathlib.Omega.{arith}
use lib.ListN.{length, take, drop}
use Rattle.std.specs.Prelude.{Ok}
use Rattle.octets.specs.Laid.{laid}
use Rattle.pcap_lists.specs.Lists.{read_said}
use Rattle.pcap_contents.proofs.Turns.{left_from, ends, stops, within, first_length, turn}
use Rattle.pcap_contents.proofs.put_all.Goals as goal

pub put-end-requires : goal.put-end-requires
put-end-requires g c =
    let file = c.args.file.now in
    let l = c.loop-span in
    let p = c.in-Ok-Some.span in
    let e = sym c.read.ensures ∙ ap read_said (c.in-Ok-Some.is ∙ ap Ok c.in-Ok-Some.field-0-is) in
    let least = within (g.R.Records.read_at file) (g.R.Records.octets file) (g.met.R.Records.reading file) g.W.Writer.one g.W.Writer.next l.from p.start p.length p.next e in
    let all = first_length (g.R.Records.read_at file) (g.R.Records.octets file) (g.met.R.Records.reading file) g.W.Writer.one g.W.Writer.next l.from p.start p.length p.next e l.writer in
    subst (λ (s : List ℕ). (length (take (p.next - p.start) (drop p.start s)) ≤ 1600) × (l.end + length (g.W.Writer.one l.writer (take (p.next - p.start) (drop p.start s))) ≤ length l.out))
    (sym c.octets-octets.ensures) (least, omega (arith, all, l.invariant.0))

pub loop-span-preserved : goal.loop-span-preserved
loop-span-preserved g c =
    let file = c.args.file.now in
    let l = c.loop-span in
    let p = c.in-Ok-Some.span in
    let put = c.put-end.ensures in
    let e = sym c.read.ensures ∙ ap read_said (c.in-Ok-Some.is ∙ ap Ok c.in-Ok-Some.field-0-is) in
    let after = put.after ∙ ap (λ (s : List ℕ). g.W.Writer.next l.writer (take (p.next - p.start) (drop p.start s))) c.octets-octets.ensures in
    let octets = put.octets ∙ ap (λ (s : List ℕ). laid l.out l.end (g.W.Writer.one l.writer (take (p.next - p.start) (drop p.start s)))) c.octets-octets.ensures in
    let behind = put.behind ∙ ap (λ (s : List ℕ). l.end + length (g.W.Writer.one l.writer (take (p.next - p.start) (drop p.start s)))) c.octets-octets.ensures in
    let all = first_length (g.R.Records.read_at file) (g.R.Records.octets file) (g.met.R.Records.reading file) g.W.Writer.one g.W.Writer.next l.from p.start p.length p.next e l.writer in
    let rest = ap (λ w. length (left_from (g.R.Records.read_at file) (g.R.Records.octets file) (g.met.R.Records.reading file) g.W.Writer.one g.W.Writer.next w p.next)) after in (
      omega (arith, behind, all, rest, l.invariant.0),
      omega (arith, l.invariant.1),
      turn (g.R.Records.read_at file) (g.R.Records.octets file) (g.met.R.Records.reading file) g.W.Writer.one g.W.Writer.next l.from p.start p.length p.next e l.writer l.out _ _ l.end _ after octets behind l.invariant.0
          ∙ l.invariant.2,
    )

pub returns-in-Ok-None : goal.returns-in-Ok-None
returns-in-Ok-None g c =
    let file = c.args.file.now in
    let l = c.loop-span in
    let e = sym c.read.ensures ∙ ap read_said (c.in-Ok-None.is ∙ ap Ok c.in-Ok-None.field-0-is) in
    sym (ends (g.R.Records.read_at file) (g.R.Records.octets file) (g.met.R.Records.reading file) g.W.Writer.one g.W.Writer.next l.writer l.out l.from l.end e)
    ∙ l.invariant.2
    ∙ ap (λ (k : ℕ). laid c.args.out.now c.args.at (left_from (g.R.Records.read_at file) (g.R.Records.octets file) (g.met.R.Records.reading file) g.W.Writer.one g.W.Writer.next c.args.writer.now k)) c.front-from.ensures

pub returns-in-Err : goal.returns-in-Err
returns-in-Err g c =
    let file = c.args.file.now in
    let l = c.loop-span in
    let e = sym c.read.ensures ∙ ap read_said c.in-Err.is in
    sym (stops (g.R.Records.read_at file) (g.R.Records.octets file) (g.met.R.Records.reading file) g.W.Writer.one g.W.Writer.next l.writer l.out l.from l.end _ e)
    ∙ l.invariant.2
    ∙ ap (λ (k : ℕ). laid c.args.out.now c.args.at (left_from (g.R.Records.read_at file) (g.R.Records.octets file) (g.met.R.Records.reading file) g.W.Writer.one g.W.Writer.next c.args.writer.now k)) c.front-from.ensures
