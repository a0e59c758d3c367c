-- `eyes::write` meets its contract.
use mathlib.Core.Path.{sym, ap, ◌∙◌}
use lib.ListN.{length}
use Rattle.trace_layout.specs.Layout.{read_all}
use Rattle.pcap_headers.specs.Headers.{capture_of}
use Rattle.pcap_lists.specs.Lists.{said, judged}
use Rattle.pcap.proofs.Laws.{fitting}
use Rattle.eyes.specs.Eyes.{shown_in}
use Rattle.eyes.proofs.Lengths.{same_answer}
use Rattle.eyes.proofs.write.Goals as goal

pub put_shown-requires : goal.put_shown-requires
put_shown-requires c =
    let s = c.args.trace.now in
    let out = c.args.capture.now in
    let e = sym (ap said c.in_ok-octets.was) ∙ c.answer_for.ensures ∙ same_answer s (length out) in
    (fitting (capture_of (shown_in s)) out (length out) _ (judged (read_all s)) e).room-enough

pub returns : goal.returns
returns c =
    let s = c.args.trace.now in
    let out = c.args.capture.now in
    let e = sym (ap said c.in_ok-octets.was) ∙ c.answer_for.ensures ∙ same_answer s (length out) in
    (fitting (capture_of (shown_in s)) out (length out) _ (judged (read_all s)) e).met-written _ c.put_shown.ensures
