-- `pcap_headers::put_capture_record` meets its contract.
use mathlib.Core.Path.{refl, ap, ◌∙◌}
use mathlib.Core.List.{List}
use Prim.Native.Nat.{ℕ, ◌+◌}
use native.Mathlib.Omega.{arith}
use lib.ListN.{length}
use Rattle.fours.specs.Word.{octets_of}
use Rattle.octets.specs.Laid.{laid}
use Rattle.octets.proofs.Laid.{laid_laid}
use Rattle.pcap_headers.specs.Headers.{capture_header}
use Rattle.pcap_headers.proofs.put_capture_record.Goals as goal

pub returns : goal.returns
unfolding octets_of
returns c =
    let a = c.args in
    let first = c.copy_into.ensures ∙ ap (laid a.out.now a.at) c.capture_header.ensures in
    c.copy_into-2.ensures
    ∙ ap (λ (x : List ℕ). laid x (a.at + 16) a.content.now) first
    ∙ laid_laid a.out.now (capture_header (length a.content.now)) a.content.now a.at (a.at + 16) refl (omega arith)
