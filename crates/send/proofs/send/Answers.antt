-- `send::send` meets its contract.
use Rattle.send.proofs.Laws.{part_sent}
use Rattle.send.proofs.send.Goals as goal

pub returns : goal.returns
returns c = part_sent _ _ _ _ c.stretch-to.ensures c.lay-length.ensures (cc) c.moved.ensures
