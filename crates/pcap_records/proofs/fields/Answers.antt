-- `pcap_records::fields` meets its contract.
use mathlib.Core.Path.{◌≡◌, sym, ◌∙◌}
use native.Mathlib.Omega.{arith}
use Rattle.rules.proofs.Tests.{tests}
use Rattle.pcap_fields.specs.Fields.{word_in}
use Rattle.pcap_records.specs.Records.{link_type}
use Rattle.pcap_records.proofs.fields.Goals as goal

pub returns-then-not-version_fits : goal.returns-then-not-version_fits
returns-then-not-version_fits c =
    let other = sym c.version_fits.ensures ∙ c.if-not-version_fits.true in
    simp other

pub returns-then-word-ne-LINK_TYPE : goal.returns-then-word-ne-LINK_TYPE
returns-then-word-ne-LINK_TYPE c =
    let a = c.args in
    let fits = sym c.version_fits.ensures ∙ c.if-not-version_fits.false in
    let other : word_in a.order a.capture.now 20 ≡ link_type → ⊥ = λ e. omega (arith, c.word.ensures, c.if-word-ne-LINK_TYPE.true) in
    simp (fits, tests)

pub returns : goal.returns
returns c =
    let a = c.args in
    let fits = sym c.version_fits.ensures ∙ c.if-not-version_fits.false in
    let same : word_in a.order a.capture.now 20 ≡ link_type = omega (arith, c.word.ensures, c.if-word-ne-LINK_TYPE.false) in
    simp (fits, tests)
