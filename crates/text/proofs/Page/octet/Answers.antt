-- `text::Page::octet` meets its contract.
use mathlib.Core.Path.{refl}
use borrow.Author.Rules.{rules}
use Rattle.octets.proofs.Laid.{set_one}
use Rattle.text.proofs.Page.octet.Goals as goal

pub returns : goal.returns
returns c = record { memory = refl; long = search rules; put = record { place = refl; octets = set_one _ _ _ c.requires } }
