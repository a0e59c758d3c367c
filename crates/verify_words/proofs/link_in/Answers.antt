-- `verify_words::link_in` meets its contract: words that are a record's have what `link_of` asks of them.
use mathlib.Core.Path.{sym, ◌∙◌}
use Rattle.verify_words.proofs.Laws.{counts_known}
use Rattle.verify_words.proofs.link_in.Goals as goal

pub link_of-requires : goal.link_of-requires
link_of-requires c = counts_known c.args.words (sym c.link_fits.ensures ∙ c.if-link_fits.true)
