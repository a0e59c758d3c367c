-- No second answer meets a promise of this crate.
-- Assumes nothing.
use mathlib.Core.Path.{◌≡◌, sym, ◌∙◌}
use mathlib.Core.List.{List}
use Prim.Native.Nat.{ℕ}
use lib.ListN.{length}
use Rattle.pcap_lists.specs.Lists.{said}
use Rattle.std.specs.Prelude.{Result}
use Rattle.pcap_lists.specs.declared.Error.{Error}
use Rattle.pcap_lists.proofs.Once.{said_one}
use Rattle.pcap.specs.Captures.{Outcome, Met, write_of, read_of}

-- answer_for: the answer
pub answer_for_once : (s : List ℕ) (room : ℕ) {x y : Result ℕ Error} → said x ≡ (write_of s room).answer → said y ≡ (write_of s room).answer → x ≡ y
answer_for_once s room p q = said_one (p ∙ sym q)

-- write, read: the answer, and each octet of the memory lent
pub met_once : (p : Outcome) (out : List ℕ) {x y : Result ℕ Error} {out₁ out₂ : List ℕ} → Met p out (said x) out₁ → Met p out (said y) out₂ → (x ≡ y) × (out₁ ≡ out₂)
met_once p out a b = (said_one (a.answer ∙ sym b.answer), a.output ∙ sym b.output)

pub write_once : (s out : List ℕ) {x y : Result ℕ Error} {out₁ out₂ : List ℕ}
    → Met (write_of s (length out)) out (said x) out₁ → Met (write_of s (length out)) out (said y) out₂ → (x ≡ y) × (out₁ ≡ out₂)
write_once s out = met_once (write_of s (length out)) out

pub read_once : (s out : List ℕ) {x y : Result ℕ Error} {out₁ out₂ : List ℕ}
    → Met (read_of s (length out)) out (said x) out₁ → Met (read_of s (length out)) out (said y) out₂ → (x ≡ y) × (out₁ ≡ out₂)
read_once s out = met_once (read_of s (length out)) out
