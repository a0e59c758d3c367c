-- `seatport::tracing::seatport_trace` meets its contract.
use mathlib.Core.Path.{sym, ap, subst, ◌∙◌}
use Rattle.trace.specs.Trace.{read_at}
use Rattle.trace.specs.declared.Cursor.{Cursor}
use Rattle.trace_words.specs.Content.{Short}
use Rattle.seatport.proofs.Traced.{read_short, traced_words}
use Rattle.seatport.proofs.tracing.seatport_trace.Goals as goal

pub content_of-requires : goal.content_of-requires
content_of-requires c =
    let s = c.args.trace.now in
    subst Short (sym (c.read-read.ensures ∙ ap (λ (k : Cursor). read_at s k.at) c.new.ensures)) (read_short s)

pub returns : goal.returns
returns c =
    let s = c.args.trace.now in
    traced_words c.read-read.result (c.read-read.ensures ∙ ap (λ (k : Cursor). read_at s k.at) c.new.ensures) c.number_of.ensures c.content_of.ensures
