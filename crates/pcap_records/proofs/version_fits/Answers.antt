-- `pcap_records::version_fits` meets its contract.
use mathlib.Core.Path.{◌≡◌, sym, ◌∙◌}
use native.Mathlib.Omega.{arith}
use Rattle.rules.proofs.Tests.{tests}
use Rattle.pcap_fields.specs.Fields.{half_in}
use Rattle.pcap_records.specs.Records.{major}
use Rattle.pcap_records.proofs.version_fits.Goals as goal

pub returns-then-half-eq-MAJOR : goal.returns-then-half-eq-MAJOR
returns-then-half-eq-MAJOR c =
    let fits = sym c.half.ensures ∙ c.if-half-eq-MAJOR.true in
    simp (c.half-then-half-eq-MAJOR.ensures, fits)

pub returns-else-half-eq-MAJOR : goal.returns-else-half-eq-MAJOR
returns-else-half-eq-MAJOR c =
    let a = c.args in
    let other : half_in a.order a.capture.now 4 ≡ major → ⊥ = λ e. omega (arith, c.half.ensures, c.if-half-eq-MAJOR.false) in
    simp (c.half.ensures, tests)
