-- `pcap_contents::put_trace` meets its contract.
use mathlib.Core.Path.{ap, ◌∙◌}
use Rattle.octets.specs.Laid.{laid}
use Rattle.octets.proofs.Laid.{laid_front}
use Rattle.pcap_lists.specs.Lists.{records_in}
use Rattle.pcap_contents.specs.declared.ToTrace.{ToTrace}
use Rattle.pcap_contents.proofs.Turns.{traced_records, traced_room}
use Rattle.pcap_contents.proofs.put_trace.Goals as goal

abbrev writer : ToTrace
writer = record {}

pub put_all-requires : goal.put_all-requires
put_all-requires c =
    let a = c.args in
    traced_room writer (records_in a.order a.capture.now).contents _ c.requires

pub returns : goal.returns
returns c =
    let a = c.args in
    c.put_all.ensures ∙ ap (laid a.out.now 0) (traced_records writer (records_in a.order a.capture.now).contents) ∙ laid_front a.out.now _
