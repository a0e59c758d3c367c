-- No second answer, no other words, no other octets and no other rows meet a promise of this crate.
-- Assumes nothing.
use mathlib.Core.Path.{◌≡◌, sym, ◌∙◌}
use mathlib.Core.List.{List}
use Prim.Native.Nat.{ℕ}
use Rattle.sender_answers.specs.Answers.{Outcome}
use Rattle.trace.specs.Trace.{Said}
use Rattle.gate_events.specs.Events.{Event}
use Rattle.gates.specs.Gates as G
use Rattle.pcap.specs.Captures as C
use Rattle.seatport.specs.Sending.{Wrote, Sending, Sent}
use Rattle.seatport.specs.Receiving.{Receiving, Received, part_of}
use Rattle.seatport.specs.Streaming.{Ending, Ended}
use Rattle.seatport.specs.Verifying.{Verifying, Taken}
use Rattle.seatport.specs.Tracing.{Traced}
use Rattle.seatport.specs.Capturing.{Captured}
use Rattle.seatport.specs.Scheduling.{Scheduled, Listed}

-- seatport_express, seatport_verify, seatport_respond
pub wrote_once : (o : Outcome) (out : List ℕ) {m n : ℕ} {v w x y : List ℕ} → Wrote o out m v x → Wrote o out n w y → (m ≡ n) × ((v ≡ w) × (x ≡ y))
wrote_once o out p q = (p.answer ∙ sym q.answer, (p.words ∙ sym q.words, p.octets ∙ sym q.octets))

-- seatport_preemptable
pub sent_once : (s : Sending) (out : List ℕ) {m n : ℕ} {a b v w x y : List ℕ} → Sent s out m a v x → Sent s out n b w y
    → (m ≡ n) × ((a ≡ b) × ((v ≡ w) × (x ≡ y)))
sent_once s out p q =
    (p.answer ∙ sym q.answer, (p.after ∙ sym q.after, (p.words ∙ sym q.words, p.octets ∙ sym q.octets)))

-- seatport_receive
pub received_once : (s : Receiving) {m n d e : ℕ} {a b x y : List ℕ} → Received s m d a x → Received s n e b y → (m ≡ n) × ((d ≡ e) × ((a ≡ b) × (x ≡ y)))
received_once s p q =
    (p.answer ∙ sym q.answer, (p.value ∙ sym q.value, (p.after ∙ sym q.after, p.octets ∙ sym q.octets)))

-- seatport_express_body
pub part_once : (m : List ℕ) {x y : List ℕ} → x ≡ part_of m → y ≡ part_of m → x ≡ y
part_once m p q = p ∙ sym q

-- seatport_end
pub ended_once : (s : Ending) {m n d e : ℕ} {v w a b x y : List ℕ} → Ended s m v d a x → Ended s n w e b y
    → (m ≡ n) × ((v ≡ w) × ((d ≡ e) × ((a ≡ b) × (x ≡ y))))
ended_once s p q =
    (p.answer ∙ sym q.answer, (p.state ∙ sym q.state, (p.value ∙ sym q.value, (p.after ∙ sym q.after, p.octets ∙ sym q.octets))))

-- seatport_step
pub taken_once : (s : Verifying) {m n d e : ℕ} {a b : List ℕ} → Taken s m d a → Taken s n e b → (m ≡ n) × ((d ≡ e) × (a ≡ b))
taken_once s p q = (p.answer ∙ sym q.answer, (p.value ∙ sym q.value, p.after ∙ sym q.after))

-- seatport_trace
pub traced_once : (s : Said) {m n : ℕ} {v w : List ℕ} → Traced s m v → Traced s n w → (m ≡ n) × (v ≡ w)
traced_once s p q = (p.answer ∙ sym q.answer, p.words ∙ sym q.words)

-- seatport_capture_write, seatport_capture_read
pub captured_once : (p : C.Outcome) (out : List ℕ) {m n v w : ℕ} {x y : List ℕ} → Captured p out m v x → Captured p out n w y
    → (m ≡ n) × ((v ≡ w) × (x ≡ y))
captured_once p out a b = (a.answer ∙ sym b.answer, (a.goes_with ∙ sym b.goes_with, a.output ∙ sym b.output))

-- seatport_gates_read, seatport_gates_write
pub scheduled_once : {A : Type 0} (o : G.Outcome A) (out : List A) {m n c d : ℕ} {x y : List A} → Scheduled o out m c x → Scheduled o out n d y
    → (m ≡ n) × ((c ≡ d) × (x ≡ y))
scheduled_once o out p q = (p.answer ∙ sym q.answer, (p.value ∙ sym q.value, p.output ∙ sym q.output))

-- seatport_gates_events
pub listed_once : (o : G.Outcome Event) (s : List ℕ) (out : List Event) {m n c d k l : ℕ} {x y : List Event} → Listed o s out m c k x
    → Listed o s out n d l y → (m ≡ n) × ((c ≡ d) × ((k ≡ l) × (x ≡ y)))
listed_once o s out p q =
    (p.answer ∙ sym q.answer, (p.value ∙ sym q.value, (p.cycle ∙ sym q.cycle, p.output ∙ sym q.output)))
