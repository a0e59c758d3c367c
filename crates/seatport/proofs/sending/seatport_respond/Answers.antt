-- `seatport::sending::seatport_respond` meets its contract.
use mathlib.Core.Path.{sym, subst}
use Rattle.sent_words.specs.Sent.{Short}
use Rattle.seatport.proofs.Sent.{wrote_words}
use Rattle.seatport.proofs.Short.{order_short}
use Rattle.seatport.proofs.sending.seatport_respond.Goals as goal

pub written_of-requires : goal.written_of-requires
written_of-requires c = subst Short (sym c.respond-answer.ensures.answer) (order_short _ _)

pub returns : goal.returns
returns c = wrote_words c.respond-answer.ensures c.number_of.ensures c.written_of.ensures
