-- `seatport::sending::seatport_express` meets its contract.
use mathlib.Core.Path.{sym, subst}
use Rattle.sent_words.specs.Sent.{Short}
use Rattle.seatport.proofs.Sent.{wrote_words}
use Rattle.seatport.proofs.Short.{express_short}
use lib.ListN.{length}
use Rattle.seatport.proofs.sending.seatport_express.Goals as goal

pub written_of-requires : goal.written_of-requires
written_of-requires c =
    let a = c.args in
    subst Short (sym c.express-answer.ensures.answer) (express_short a.body.now (length a.out.now))

pub returns : goal.returns
returns c = wrote_words c.express-answer.ensures c.number_of.ensures c.written_of.ensures
