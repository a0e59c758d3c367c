-- `pcap_fields::half` meets its contract.
use mathlib.Core.Path.{sym, ap, ◌∙◌}
use Rattle.pcap_fields.specs.Fields.{half_in}
use Rattle.pcap_fields.specs.declared.Order.{Order}
use Rattle.pcap_fields.proofs.half.Goals as goal

pub returns-in-Little : goal.returns-in-Little
returns-in-Little c =
    let a = c.args in
    c.joined.ensures ∙ ap (λ (o : Order). half_in o a.octets.now a.i) (sym c.in-Little.is)

pub returns-in-Big : goal.returns-in-Big
returns-in-Big c =
    let a = c.args in
    c.joined-in-Big.ensures ∙ ap (λ (o : Order). half_in o a.octets.now a.i) (sym c.in-Big.is)
