-- `seatport::scheduling::seatport_gates_read` meets its contract.
use Rattle.seatport.proofs.Scheduled.{scheduled_words}
use Rattle.seatport.proofs.scheduling.seatport_gates_read.Goals as goal

pub returns : goal.returns
returns c = scheduled_words c.read_list-read.ensures c.number.ensures c.value.ensures
