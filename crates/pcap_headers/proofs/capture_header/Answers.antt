-- `pcap_headers::capture_header` meets its contract.
use mathlib.Core.Path.{ap}
use mathlib.Core.List.{List, [], ◌∷◌}
use Prim.Native.Nat.{ℕ}
use lib.ListN.{get_or}
use Rattle.fours.specs.Word.{octets_of}
use Rattle.pcap_headers.proofs.capture_header.Goals as goal

pub returns : goal.returns
unfolding octets_of
returns c =
    ap (λ (x : List ℕ). 0 ∷ 0 ∷ 0 ∷ 0 ∷ 0 ∷ 0 ∷ 0 ∷ 0 ∷ get_or x 0 0 ∷ get_or x 1 0 ∷ get_or x 2 0 ∷ get_or x 3 0 ∷ get_or x 0 0 ∷ get_or x 1 0 ∷ get_or x 2 0 ∷ get_or x 3 0 ∷ [])
    c.split-n.ensures
