-- `pcap_contents::ToCapture::put` meets its contract.
use native.Mathlib.Omega.{arith}
use Rattle.pcap_headers.proofs.Lengths.{length_record}
use Rattle.pcap_contents.proofs.ToCaptureWriter.put.Goals as goal

pub put_capture_record-requires : goal.put_capture_record-requires
put_capture_record-requires c =
    let pre = c.requires in
    (pre.0, omega (arith, length_record c.args.content.now, pre.1))

pub returns-clause-behind : goal.returns-clause-behind
returns-clause-behind c = omega (arith, length_record c.args.content.now)
