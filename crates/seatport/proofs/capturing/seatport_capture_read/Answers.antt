-- `seatport::capturing::seatport_capture_read` meets its contract.
use Rattle.seatport.proofs.Captured.{captured_words}
use Rattle.seatport.proofs.capturing.seatport_capture_read.Goals as goal

pub returns : goal.returns
returns c = captured_words c.read-read.ensures c.number.ensures c.value.ensures
