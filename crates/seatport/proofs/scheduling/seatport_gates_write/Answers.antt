-- `seatport::scheduling::seatport_gates_write` meets its contract.
use Rattle.seatport.proofs.Scheduled.{scheduled_words}
use Rattle.seatport.proofs.scheduling.seatport_gates_write.Goals as goal

pub returns : goal.returns
returns c = scheduled_words c.write_list-wrote.ensures c.number.ensures c.value.ensures
