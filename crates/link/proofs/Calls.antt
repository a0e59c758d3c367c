-- The sending calls on their record, refused or not, make a flow. Assumes nothing.
use mathlib.Core.Path.{◌≡◌, refl}
use mathlib.Core.Bool.{Bool, true, false, cond, ◌||◌, false≢true}
use mathlib.Core.List.{List, [], ◌∷◌, ◌++◌}
use Prim.Native.Nat.{ℕ, ◌+◌, ◌≤◌}
use native.Mathlib.Omega.{arith}
use borrow.Author.Tests.{ltb-false}
use lib.Dec.{ltb}
use lib.ListN.{length, take, drop}
use lib.Seq.{take_at}
use Rattle.std.specs.Prelude.{Option, Some, None}
use Rattle.octets.specs.Laid.{over}
use Rattle.crc.specs.Crc.{all_ones, register_over, fcs_of, mcrc_of}
use Rattle.mframe.specs.Octets.{mframe_of}
use Rattle.sender_answers.specs.Answers.{Outcome, refuse, write, short}
use Rattle.single.specs.Single.{express_of, zeros, order_of}
use Rattle.mframe.specs.declared.Kind.{Kind}
use Rattle.mframe.specs.declared.Kind.TheVariants.{Express, Verify, Respond}
use Rattle.sender_record.specs.Refusals.{refusal_of}
use Rattle.sender_record.specs.declared.Record.{Record}
use Rattle.sender_record.proofs.Laws.{Passed, passed}
use Rattle.sender_part.specs.Parts.{part_now, end_of, is_done}
use Rattle.send.specs.Preemptable.{mframe, Step, go, sent_of, unless, preemptable_of}
use Rattle.sender_part.proofs.Laws.{cut_within}
use Rattle.link.specs.Sender.{Fate, Call, express_call, preemptable_call, verify_call, respond_call, MFrame, express, part, order, sends, setting, sending}
use Rattle.link.specs.Frames.{SameToEnd}
use Rattle.link.proofs.Flow.{Sender, Order, verify, respond, Flow}
use Rattle.link.proofs.Send.{Means, means_setting, up_to, emits, means_after}

-- what a call sends is what it wrote
front : (m out : List ℕ) → take (length m) (over m out) ≡ m
front m out = take_at m (drop (length m) out) (length m) refl

-- mFrames with the same bodies until their ends are a flow
abbrev Flows : Option (List ℕ) → Sender → List MFrame → Type 0
Flows p s ms = SameToEnd p ms → Flow s ms

-- calls, from any record
abbrev FlowFrom : List Call → Type 0
FlowFrom calls = (r : Record) (p : Option (List ℕ)) (s : Sender) → Means r p s → Flows p s (sending r calls)

-- a preemptable call, and the calls after it
module _ (body out : List ℕ) (fate : Fate) (calls : List Call) (rest : FlowFrom calls) (r : Record) (p : Option (List ℕ)) (s : Sender) (i : Means r p s) where
  abbrev Goes : Step → Type 0
  Goes t = Flows p s (sends t.said (over t.octets out) (λ done octets. part body done octets fate) ++ sending t.after calls)

  part_goes : (to : ℕ) (done : Bool) → r.sent + 60 ≤ to → to ≤ length body → 60 ≤ length body → length body ≤ 1518 → (done ≡ true → to ≡ length body)
      → Goes (go r body to done)
  part_goes to done low fits least most at_end g =
      rw (front (mframe r body to done) out)
      (up_to r body to, (emits i body g.0 to low fits most done at_end, rest _ _ _ (means_after i body g.0 to low least done) g.1))

  goes : (ask : Option ℕ) → Passed r (length body) (length out) → (q : Option ℕ) → part_now r (length body) ask ≡ q
      → Goes (go r body (end_of r.sent (length body) q) (is_done q))
  goes ask ok None e = part_goes (length body) true ok.left (omega arith) ok.least ok.most (λ _. refl)
  goes ask ok (Some k) e =
      let w = cut_within r (length body) ask k e in
      part_goes (r.sent + k) false w.part (omega (arith, w.left)) ok.least ok.most (λ z. absurd (false≢true z))

  preemptable_goes : (ask : Option ℕ) → Goes (preemptable_of r body ask (length out))
  unfolding sent_of
  preemptable_goes ask = by (refusal_of r (length body) (length out)) refl
    where
      by : (o : Option ℕ) → refusal_of r (length body) (length out) ≡ o → Goes (unless o r (sent_of r body ask))
      by None e = goes ask (passed r (length body) (length out) e) (part_now r (length body) ask) refl
      by (Some k) e = rest r p s i

-- an express call
module _ (body out : List ℕ) (fate : Fate) (ms : List MFrame) (p : Option (List ℕ)) (s : Sender) (rest : Flows p s ms) where
  abbrev ExpressGoes : Outcome → Type 0
  ExpressGoes o = Flows p s (sends o.said (over o.octets out) (λ done octets. express body octets fate) ++ ms)

  express_goes : ExpressGoes (express_of body (length out))
  unfolding express_of
  express_goes = by (short (length out)) (ltb (length body) 60) (ltb 1518 (length body)) refl refl
    where
      by : (x y z : Bool) → ltb (length body) 60 ≡ y → ltb 1518 (length body) ≡ z
          → ExpressGoes (cond x (refuse 30) (cond (y || z) (refuse 32) (write (mframe_of Express body (fcs_of (register_over all_ones body))) true)))
      by true y z e f = rest
      by false true z e f = rest
      by false false true e f = rest
      by false false false e f = λ g. (record { is = front _ out; low = ltb-false _ _ e; high = ltb-false _ _ f }, rest g)

-- V or R
module _ (out : List ℕ) (fate : Fate) (ms : List MFrame) (p : Option (List ℕ)) (s : Sender) (rest : Flows p s ms) where
  abbrev OrderGoes : Outcome → Type 0
  OrderGoes o = Flows p s (sends o.said (over o.octets out) (λ done octets. order octets fate) ++ ms)

  order_goes : (kind : Kind) → ((m : List ℕ) → m ≡ mframe_of kind zeros (mcrc_of (register_over all_ones zeros)) → Order m) → OrderGoes (order_of kind (length out))
  unfolding order_of
  order_goes kind says = by (short (length out))
    where
      by : (x : Bool) → OrderGoes (cond x (refuse 30) (write (mframe_of kind zeros (mcrc_of (register_over all_ones zeros))) true))
      by true = rest
      by false = λ g. (says _ (front _ out), rest g)

pub flows : (calls : List Call) → FlowFrom calls
unfolding sending
flows [] r p s i g = tt
flows (express_call body out fate ∷ calls) r p s i g = express_goes body out fate (sending r calls) p s (flows calls r p s i) g
flows (preemptable_call hold extra body ask out fate ∷ calls) r p s i g =
    preemptable_goes body out fate calls (flows calls) (setting hold extra r) p s (means_setting i hold extra) ask g
flows (verify_call out fate ∷ calls) r p s i g = order_goes out fate (sending r calls) p s (flows calls r p s i) Verify (λ m e. verify e) g
flows (respond_call out fate ∷ calls) r p s i g = order_goes out fate (sending r calls) p s (flows calls r p s i) Respond (λ m e. respond e) g
