-- The sending end of a link (demand 3): a caller's calls, and the mFrames that they send, each with its fate. Assumes nothing.
use Rattle.std.specs.Prelude.{Bool, true, false, List, [], ◌∷◌, ◌++◌, ℕ, length, take, Option}
use Rattle.octets.specs.Laid.{over}
use Rattle.sender_answers.specs.Answers.{Said, wrote, refused}
use Rattle.single.specs.Single.{express_of, order_of}
use Rattle.mframe.specs.declared.Kind.TheVariants.{Verify, Respond}
use Rattle.sender_record.specs.Record.{fresh_of}
use Rattle.sender_record.specs.declared.Record.{Record}
use Rattle.send.specs.Preemptable.{preemptable_of}

-- what becomes of an mFrame on the link: it arrives without so many of its leading octets 55, or as many as it has; or it is lost
pub data Fate : Type 0 where
  arrives : (dropped : ℕ) → Fate
  lost : Fate

-- a call with all that its caller chooses: the body, the buffer lent (any length, any octets), for a preemptable call also hold, extra and the
-- ask; and the fate of the mFrame, should it send one
pub data Call : Type 0 where
  express_call : (body out : List ℕ) → Fate → Call
  preemptable_call : (hold : Bool) (extra : ℕ) (body : List ℕ) (ask : Option ℕ) (out : List ℕ) → Fate → Call
  verify_call : (out : List ℕ) → Fate → Call
  respond_call : (out : List ℕ) → Fate → Call

-- an mFrame sent, its octets and its fate: an express one, with its body; a part of a preemptable frame, with the call's body and whether the
-- frame is done with it; V or R
pub data MFrame : Type 0 where
  express : (body octets : List ℕ) → Fate → MFrame
  part : (body : List ℕ) (done : Bool) (octets : List ℕ) → Fate → MFrame
  order : (octets : List ℕ) → Fate → MFrame

-- what a call sends: the buffer's first octets after it, as many as it answers; a refused one sends nothing
abbrev pub sends : Said → List ℕ → (Bool → List ℕ → MFrame) → List MFrame
sends (wrote n done) out mframe = mframe done (take n out) ∷ []
sends (refused k) out mframe = []

-- "handed on untouched but for hold and extra"
abbrev pub setting : Bool → ℕ → Record → Record
setting hold extra r = record {
  active = r.active;
  hold = hold;
  extra = extra;
  next = r.next;
  length = r.length;
  sent = r.sent;
  fragment = r.fragment;
}

-- the mFrames that calls send, from a record on; V, R and express calls have no record
unfoldable pub sending : Record → List Call → List MFrame
sending r [] = []
sending r (express_call body out fate ∷ calls) =
    let o = express_of body (length out) in
    sends o.said (over o.octets out) (λ done octets. express body octets fate) ++ sending r calls
sending r (preemptable_call hold extra body ask out fate ∷ calls) =
    let s = preemptable_of (setting hold extra r) body ask (length out) in
    sends s.said (over s.octets out) (λ done octets. part body done octets fate) ++ sending s.after calls
sending r (verify_call out fate ∷ calls) =
    let o = order_of Verify (length out) in
    sends o.said (over o.octets out) (λ done octets. order octets fate) ++ sending r calls
sending r (respond_call out fate ∷ calls) =
    let o = order_of Respond (length out) in
    sends o.said (over o.octets out) (λ done octets. order octets fate) ++ sending r calls

-- "fresh, preemption active": hold and extra come with each call
abbrev pub sent : List Call → List MFrame
sent calls = sending (fresh_of true false 0) calls
