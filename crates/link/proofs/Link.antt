-- Demand 3 but for its last sentence, of a sender's flow: what arrives is delivered as expected, in both lanes. Assumes nothing.
use mathlib.Core.Path.{◌≡◌, refl, ap, ap₂, ◌∙◌}
use mathlib.Core.Bool.{Bool, true, false}
use mathlib.Core.List.{List, [], ◌∷◌, ◌++◌}
use Prim.Native.Nat.{ℕ, ◌≤◌}
use native.Mathlib.Omega.{arith}
use lib.ListN.{length, length-append, length-replicate}
use Rattle.crc.specs.Crc.{all_ones, register_over, fcs_of, mcrc_of}
use Rattle.crc.proofs.Laws.{fcs_length, mcrc_length}
use Rattle.endings.proofs.Endings.{ending_done, ending_more}
use Rattle.single.specs.Single.{zeros}
use Rattle.mframe.specs.declared.Kind.{Kind}
use Rattle.mframe.specs.declared.Kind.TheVariants.{Express, Verify, Respond}
use Rattle.mframe.proofs.Laws.{Counted}
use Rattle.send.specs.Preemptable.{check_of}
use Rattle.send.proofs.Laws.{check_length}
use Rattle.receiver_record.specs.declared.Record.{Record}
use Rattle.receiver_answers.specs.Answers.{says}
use Rattle.receiver_record.specs.Records.{in_range}
use Rattle.outcomes.specs.Outcomes.{Step}
use Rattle.assembly.specs.Steps.{step_of}
use Rattle.receive.specs.Receive.{received_of, left_of, buffer_of}
use Rattle.express_body.specs.Body.{body_of}
use Rattle.link.specs.Sender.{Fate, arrives, lost, MFrame, express, part, order}
use Rattle.link.specs.Frames.{fates, shortened, arrivals, express_expected, frames_sent, none_lost, if_so, unharmed}
use Rattle.link.specs.Receiver.{Given, given, receiving, express_lane, preemptable_lane}
use Rattle.link.proofs.Counts.{Runs}
use Rattle.link.proofs.Shortened.{Reads}
use Rattle.link.proofs.Taken.{Carried, reads, taken, left, body}
use Rattle.link.proofs.Flow.{Sender, sofar, kind_from, Emits, Whole, Order, verify, respond, Flow}
use Rattle.link.proofs.Inv.{Inv, ranged, inv_lost}
use Rattle.link.proofs.Kept.{inv_kept}

-- nothing given; an mFrame given, by what is answered and what is left
receive_none : (r : Record) (B : List ℕ) → receiving r B [] ≡ []
unfolding receiving
receive_none r B = refl

receive_as : (m : List ℕ) (r : Record) (B : List ℕ) (ms : List (List ℕ)) {t : Step} {B' : List ℕ} → received_of m r (length B) ≡ t → buffer_of m r B ≡ B'
    → receiving r B (m ∷ ms) ≡ given m t.said B' ∷ receiving t.after B' ms
unfolding receiving
receive_as m r B ms p q = rw (p, q)

module _ (r : Record) (B : List ℕ) (room : 1518 ≤ length B) (range : in_range r ≡ true) (ms : List (List ℕ)) where
  -- an mFrame that a sender wrote, as it is read
  arrived : (kind : Kind) (d check m : List ℕ) → Reads kind (d ++ check) m → Carried kind d check → (let t = step_of kind (d ++ check) r in
      receiving r B (m ∷ ms) ≡ given m t.said (left_of t.said d B) ∷ receiving t.after (left_of t.said d B) ms)
  arrived kind d check m e f = receive_as m r B ms (taken kind d check f e r (length B) room range) (left kind d check f e r B room range)

  -- an express one delivers its body; record and buffer stay
  express_arrives : (b m : List ℕ) (k : ℕ) → Whole b m
      → receiving r B (shortened k m ∷ ms) ≡ record { said = says 0 (length b); express = b ∷ []; preemptable = [] } ∷ receiving r B ms
  express_arrives b m k w =
      let f : Carried Express b (fcs_of (register_over all_ones b)) =
      record { counted = tt; low = w.low; high = w.high; four = fcs_length (register_over all_ones b) } in
      let is : Reads Express (b ++ fcs_of (register_over all_ones b)) (shortened k m) = rw w.is (reads Express b _ f k) in
      let is_body : body_of (shortened k m) ≡ b = rw (body Express b _ f is, ending_done all_ones b) in
      arrived Express b _ (shortened k m) is f ∙ rw (ending_done all_ones b, is_body)

  -- V or R is heard
  heard : (kind : Kind) → Counted kind → Carried kind zeros (mcrc_of (register_over all_ones zeros))
  heard kind c =
      let n = length-replicate {A = ℕ} 60 0 in
      record { counted = c; low = omega arith; high = omega arith; four = mcrc_length (register_over all_ones zeros) }

  order_arrives : (m : List ℕ) (k : ℕ) → Order m
      → (n : ℕ) × (receiving r B (shortened k m ∷ ms) ≡ record { said = says n 0; express = []; preemptable = [] } ∷ receiving r B ms)
  order_arrives m k (verify e) =
      (3, arrived Verify zeros _ (shortened k m) (rw e (reads Verify zeros _ (heard Verify tt) k)) (heard Verify tt) ∙ rw (ending_more all_ones zeros))
  order_arrives m k (respond e) =
      (4, arrived Respond zeros _ (shortened k m) (rw e (reads Respond zeros _ (heard Respond tt) k)) (heard Respond tt) ∙ rw (ending_more all_ones zeros))

  -- a part of a preemptable frame
  part_arrives : (s : Sender) (d b : List ℕ) (done : Bool) (m : List ℕ) (k : ℕ) → Emits s d b done m → (let t = step_of (kind_from s) (d ++ check_of (register_over all_ones (sofar s ++ d)) done) r in
      receiving r B (shortened k m ∷ ms) ≡ given (shortened k m) t.said (left_of t.said d B) ∷ receiving t.after (left_of t.said d B) ms)
  part_arrives s d b done m k e =
      let high : length d ≤ 1518 = omega (arith, length-append (sofar s) d, e.high) in
      let f : Carried (kind_from s) d (check_of (register_over all_ones (sofar s ++ d)) done) =
      record { counted = e.counted; low = e.low; high = high; four = check_length (register_over all_ones (sofar s ++ d)) done } in
      arrived (kind_from s) d _ (shortened k m) (rw e.is (reads (kind_from s) d _ f k)) f

-- what is delivered of mFrames, where the frame in progress has had some fates
abbrev pub Lanes : List Fate → List MFrame → List Given → Type 0
Lanes begun ms got = (express_lane got ≡ express_expected ms) × (preemptable_lane got ≡ unharmed (frames_sent begun ms))

pub lanes : (ms : List MFrame) (begun : List Fate) {s : Sender} {r : Record} {B : List ℕ} {c : ℕ} → Inv s (none_lost begun) r B c → c ≤ 3 → 1518 ≤ length B
    → Runs c (fates ms) → Flow s ms → Lanes begun ms (receiving r B (arrivals ms))
unfolding arrivals fates express_expected express_lane preemptable_lane frames_sent unharmed none_lost
lanes [] begun {r = r} {B = B} i u room n g = rw (receive_none r B) (refl, refl)
lanes (express b m lost ∷ ms) begun i u room n g = lanes ms begun i u room n g.1
lanes (express b m (arrives k) ∷ ms) begun {r = r} {B = B} i u room n g =
    let y = lanes ms begun i u room n g.1 in
    rw (express_arrives r B room (ranged i) (arrivals ms) b m k g.0) (ap (λ (l : List (List ℕ)). b ∷ l) y.0, y.1)
lanes (order m lost ∷ ms) begun i u room n g = lanes ms begun i u room n g.1
lanes (order m (arrives k) ∷ ms) begun {r = r} {B = B} i u room n g =
    rw (order_arrives r B room (ranged i) (arrivals ms) m k g.0).1 (lanes ms begun i u room n g.1)
lanes (part b true m lost ∷ ms) begun i u room n (d, (e, g)) = lanes ms [] (inv_lost i d true) n.0 room n.1 g
lanes (part b false m lost ∷ ms) begun i u room n (d, (e, g)) = lanes ms (lost ∷ begun) (inv_lost i d false) n.0 room n.1 g
lanes (part b true m (arrives k) ∷ ms) begun {s = s} {r = r} {B = B} i u room n (d, (e, g)) =
    let o = inv_kept i u room d true e.counted e.low e.high in
    let y = lanes ms [] o.inv (omega arith) (omega (arith, o.long)) n g in
    rw (part_arrives r B room (ranged i) (arrivals ms) s d b true m k e, o.no_express)
    (y.0, ap₂ ◌++◌ (o.delivers ∙ ap (if_so (none_lost begun)) (e.whole refl)) y.1)
lanes (part b false m (arrives k) ∷ ms) begun {s = s} {r = r} {B = B} i u room n (d, (e, g)) =
    let o = inv_kept i u room d false e.counted e.low e.high in
    let y = lanes ms (arrives k ∷ begun) o.inv (omega arith) (omega (arith, o.long)) n g in
    rw (part_arrives r B room (ranged i) (arrivals ms) s d b false m k e, o.no_express) (y.0, ap₂ ◌++◌ o.delivers y.1)
