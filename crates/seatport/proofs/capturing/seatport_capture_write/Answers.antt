-- `seatport::capturing::seatport_capture_write` meets its contract.
use Rattle.seatport.proofs.Captured.{captured_words}
use Rattle.seatport.proofs.capturing.seatport_capture_write.Goals as goal

pub returns : goal.returns
returns c = captured_words c.write-written.ensures c.number.ensures c.value.ensures
