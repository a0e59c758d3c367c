-- No second answer meets a promise of this crate.
-- Assumes nothing.
use mathlib.Core.Path.{◌≡◌, sym, ◌∙◌}
use mathlib.Core.List.{List}
use Prim.Native.Nat.{ℕ}
use Rattle.sender_answers.proofs.Once.{said_one}
use Rattle.send.specs.Preemptable.{Step, Sent}
use Rattle.send.specs.declared.Sending.{Sending}

-- preemptable: no second answer, no other record, and no other octets
pub sent_once : (p : Step) (out : List ℕ) {s t : Sending} {x y : List ℕ} → Sent p out s x → Sent p out t y → (s ≡ t) × (x ≡ y)
sent_once p out {s} {t} h k =
    let a : s.answer ≡ t.answer = said_one (h.answer ∙ sym k.answer) in
    let r : s.after ≡ t.after = h.after ∙ sym k.after in
    (λ i. record { answer = a i; after = r i }, h.octets ∙ sym k.octets)
