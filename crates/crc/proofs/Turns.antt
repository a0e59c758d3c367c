-- What `crc::steps` and `crc::one_by_one` need of a turn and of the end of their loops.
-- Assumes nothing.
use Rattle.crc.proofs.Laws.{register_turn, register_end}
use Rattle.crc.proofs.Word.{first, steps_turn, steps_end}

pub ruleset steps_loop = (steps_turn, steps_end)

pub ruleset octets_loop = (first, register_turn, register_end)
