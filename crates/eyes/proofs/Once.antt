-- No second answer meets the promise of this crate.
-- Assumes nothing.
use mathlib.Core.Path.{◌≡◌}
use mathlib.Core.List.{List}
use Prim.Native.Nat.{ℕ}
use lib.ListN.{length}
use Rattle.pcap_lists.specs.Lists.{said}
use Rattle.std.specs.Prelude.{Result}
use Rattle.pcap_lists.specs.declared.Error.{Error}
use Rattle.pcap.specs.Captures.{Met}
use Rattle.pcap.proofs.Once.{met_once}
use Rattle.eyes.specs.Eyes.{eyes_of}

-- write: the answer, and each octet of the memory lent
pub write_once : (s out : List ℕ) {x y : Result ℕ Error} {out₁ out₂ : List ℕ}
    → Met (eyes_of s (length out)) out (said x) out₁ → Met (eyes_of s (length out)) out (said y) out₂ → (x ≡ y) × (out₁ ≡ out₂)
write_once s out = met_once (eyes_of s (length out)) out
