-- `pcap_contents::put_capture` meets its contract.
use mathlib.Core.Path.{ap, ◌∙◌}
use native.Mathlib.Omega.{arith}
use lib.ListN.{length}
use Rattle.octets.specs.Laid.{laid}
use Rattle.trace_layout.specs.Layout.{read_all}
use Rattle.pcap_headers.proofs.Laid.{records_room, header_first}
use Rattle.pcap_contents.specs.declared.ToCapture.{ToCapture}
use Rattle.pcap_contents.proofs.Turns.{captured_records, captured_room}
use Rattle.pcap_contents.proofs.put_capture.Goals as goal

abbrev writer : ToCapture
writer = record {}

pub put_file_header-requires : goal.put_file_header-requires
put_file_header-requires c =
    let a = c.args in
    let r = records_room (read_all a.trace.now).contents a.out.now c.requires in
    omega (arith, r)

pub put_all-requires : goal.put_all-requires
put_all-requires c =
    let a = c.args in
    let r = records_room (read_all a.trace.now).contents a.out.now c.requires in
    omega (arith, captured_room writer (read_all a.trace.now).contents (length c.put_file_header.new.out) (omega (arith, r)))

pub returns : goal.returns
returns c =
    let a = c.args in
    let cs = (read_all a.trace.now).contents in
    c.put_all.ensures ∙ ap (laid _ 24) (captured_records writer cs) ∙ header_first cs a.out.now _ c.put_file_header.ensures (records_room cs a.out.now c.requires)
