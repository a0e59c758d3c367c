-- `pcap_headers::put_trace_record` meets its contract.
use mathlib.Core.Path.{refl, ap, ◌∙◌}
use mathlib.Core.List.{List, [], ◌∷◌}
use Prim.Native.Nat.{ℕ, ◌+◌}
use native.Mathlib.Omega.{arith}
use lib.ListN.{length, get_or}
use Rattle.fours.specs.Word.{octets_of}
use Rattle.octets.specs.Laid.{laid}
use Rattle.octets.proofs.Laid.{laid_laid}
use Rattle.pcap_headers.proofs.put_trace_record.Goals as goal

pub returns : goal.returns
unfolding octets_of
returns c =
    let a = c.args in
    let header : List ℕ → List ℕ = λ x. get_or x 0 0 ∷ get_or x 1 0 ∷ 1 ∷ 0 ∷ [] in
    let first = c.copy_into.ensures ∙ ap (λ (x : List ℕ). laid a.out.now a.at (header x)) c.split-n.ensures in
    c.copy_into-2.ensures
    ∙ ap (λ (x : List ℕ). laid x (a.at + 4) a.content.now) first
    ∙ laid_laid a.out.now (header (octets_of (length a.content.now))) a.content.now a.at (a.at + 4) refl (omega arith)
