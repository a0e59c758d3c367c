-- `pcap::read` meets its contract.
use mathlib.Core.Path.{sym, ap, ◌∙◌, subst}
use Prim.Native.Nat.{◌-◌, ◌*◌}
use native.Mathlib.Omega.{arith}
use lib.ListN.{length}
use Rattle.trace_layout.specs.Layout.{trace_of}
use Rattle.pcap_lists.specs.Lists.{good, short, said, records_in}
use Rattle.pcap_records.specs.Records.{Opening, opening}
use Rattle.pcap_records.proofs.Laws.{open_long}
use Rattle.pcap.specs.Captures.{Met, read_in}
use Rattle.pcap.proofs.Laws.{met_short, met_good}
use Rattle.pcap.proofs.Lengths.{uncaptured}
use Rattle.pcap.proofs.read.Goals as goal

pub overflow_sub-octets : goal.overflow_sub-octets
overflow_sub-octets c = omega (arith, open_long _ _ (sym c.open.ensures ∙ ap opening c.in-Ok.is))

pub overflow_mul-octets : goal.overflow_mul-octets
overflow_mul-octets c =
    let s = c.args.capture.now in
    let e = sym c.open.ensures ∙ ap opening c.in-Ok.is in
    let g = sym c.count.ensures ∙ ap said c.in_ok-records.was in
    let u = uncaptured c.in-Ok.order s _ (open_long _ _ e) g in
    record { fits = omega (arith, u) }

pub overflow_sub-octets-2 : goal.overflow_sub-octets-2
overflow_sub-octets-2 c =
    let s = c.args.capture.now in
    let e = sym c.open.ensures ∙ ap opening c.in-Ok.is in
    let g = sym c.count.ensures ∙ ap said c.in_ok-records.was in
    let u = uncaptured c.in-Ok.order s _ (open_long _ _ e) g in
    omega (arith, u)

pub returns-then-trace-octets : goal.returns-then-trace-octets
returns-then-trace-octets c =
    let s = c.args.capture.now in
    let out = c.args.trace.now in
    let e = sym c.open.ensures ∙ ap opening c.in-Ok.is in
    let g = sym c.count.ensures ∙ ap said c.in_ok-records.was in
    let u = uncaptured c.in-Ok.order s _ (open_long _ _ e) g in
    subst (λ (x : Opening). Met (read_in x s (length out)) out (short (length s - 24 - 12 * c.in_ok-records.records)) out) (sym e)
    (met_short (trace_of (records_in c.in-Ok.order s).contents) out _ _ _ g (omega (arith, u)) (omega (arith, u)) (omega (arith, u, c.if-trace-octets.true)))

pub put_trace-requires : goal.put_trace-requires
put_trace-requires c =
    let s = c.args.capture.now in
    let e = sym c.open.ensures ∙ ap opening c.in-Ok.is in
    let g = sym c.count.ensures ∙ ap said c.in_ok-records.was in
    let u = uncaptured c.in-Ok.order s _ (open_long _ _ e) g in
    omega (arith, u, c.if-trace-octets.false)

pub returns : goal.returns
returns c =
    let s = c.args.capture.now in
    let out = c.args.trace.now in
    let e = sym c.open.ensures ∙ ap opening c.in-Ok.is in
    let g = sym c.count.ensures ∙ ap said c.in_ok-records.was in
    let u = uncaptured c.in-Ok.order s _ (open_long _ _ e) g in
    subst (λ (x : Opening). Met (read_in x s (length out)) out (good (length s - 24 - 12 * c.in_ok-records.records)) c.put_trace.new.out) (sym e)
    (met_good (trace_of (records_in c.in-Ok.order s).contents) out _ _ _ g (omega (arith, u)) (omega (arith, u, c.if-trace-octets.false)) c.put_trace.ensures)
