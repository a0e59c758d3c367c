-- `pcap_lists::count` meets its contract. The invariant: what is said of the records from here on, behind those counted, is said of all.
use mathlib.Core.Path.{sym, ap, ◌∙◌}
use native.Mathlib.Omega.{arith}
use Rattle.std.proofs.Common.{rules, ◌^◌, ◌<◌}
use Rattle.std.specs.Prelude.{Ok}
use Rattle.trace_layout.proofs.Rest.{reading_of}
use Rattle.pcap_lists.specs.Lists.{read_said}
use Rattle.pcap_lists.proofs.Counted.{count_found, count_ended, count_refused}
use Rattle.pcap_lists.proofs.count.Goals as goal

pub returns-in-Ok-None : goal.returns-in-Ok-None
returns-in-Ok-None g c =
    let file = c.args.file.now in
    let l = c.loop-span in
    let e = sym c.read.ensures ∙ ap read_said (c.in-Ok-None.is ∙ ap Ok c.in-Ok-None.field-0-is) in
    sym (count_ended (g.R.Records.read_at file) (g.R.Records.octets file) (reading_of (g.met.R.Records.reading file)) l.records l.at e) ∙ l.invariant.2

pub overflow_add-result : goal.overflow_add-result
overflow_add-result g c = record { fits = omega (arith, c.loop-span.invariant.0, c.loop-span.invariant.1) }

pub returns-in-Err : goal.returns-in-Err
returns-in-Err g c =
    let file = c.args.file.now in
    let l = c.loop-span in
    let e = sym c.read.ensures ∙ ap read_said c.in-Err.is in
    sym (count_refused (g.R.Records.read_at file) (g.R.Records.octets file) (reading_of (g.met.R.Records.reading file)) l.records l.at _ e) ∙ l.invariant.2

pub loop-span-preserved : goal.loop-span-preserved
loop-span-preserved g c =
    let file = c.args.file.now in
    let l = c.loop-span in
    let e = sym c.read.ensures ∙ ap read_said (c.in-Ok-Some.is ∙ ap Ok c.in-Ok-Some.field-0-is) in
    let further = (g.met.R.Records.reading file).least l.at _ _ _ e in (
      omega (arith, further, l.invariant.0),
      (let fits : c.in-Ok-Some.span.next < 2 ^ 64 = search rules in fits),
      count_found (g.R.Records.read_at file) (g.R.Records.octets file) (reading_of (g.met.R.Records.reading file)) l.records l.at _ _ _ e ∙ l.invariant.2,
    )
