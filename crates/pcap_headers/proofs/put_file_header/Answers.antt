-- `pcap_headers::put_file_header` meets its contract.
use Rattle.fours.specs.Word.{octets_of}
use Rattle.pcap_headers.proofs.put_file_header.Goals as goal

pub returns : goal.returns
unfolding octets_of
returns c = c.copy_into.ensures
