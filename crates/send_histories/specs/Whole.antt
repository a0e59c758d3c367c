-- A frame sent by a sequence of calls over one body: what the calls write, one after the other. Assumes nothing.
use Rattle.std.specs.Prelude.{◌≡◌, Bool, true, false, List, [], ◌∷◌, ◌++◌, ℕ, zero, suc, ◌-◌, length, take, drop, Option}
use Rattle.codes.specs.Codes.{fragment, next_fragment}
use Rattle.codes.specs.declared.FrameCount.{FrameCount}
use Rattle.codes.specs.declared.FragmentCount.{FragmentCount}
use Rattle.sender_answers.specs.Answers.{Said, wrote, refused}
use Rattle.mframe.specs.declared.Kind.{Kind}
use Rattle.mframe.specs.declared.Kind.TheVariants.{Start, Continuation}
use Rattle.send.specs.Preemptable.{preemptable_of}
use Rattle.sender_record.specs.declared.Record.{Record}

-- a call: the settings as the caller then has them, the ask, and the buffer's length
pub record Call : Type 0 where
  pub active : Bool
  pub hold : Bool
  pub extra : ℕ
  pub ask : Option ℕ
  pub room : ℕ

-- the record with a call's settings
abbrev pub setting : Call → Record → Record
setting c r = record {
  active = c.active;
  hold = c.hold;
  extra = c.extra;
  next = r.next;
  length = r.length;
  sent = r.sent;
  fragment = r.fragment;
}

-- the mFrames that calls over one body write, up to the one that ends the frame, and whether one did; a refused call writes none
pub record Written : Type 0 where
  pub mframes : List (List ℕ)
  pub ended : Bool

abbrev pub more : List ℕ → Written → Written
more m w = record { mframes = m ∷ w.mframes; ended = w.ended }

abbrev pub after : Said → List ℕ → Written → Written
after (wrote n true) m w = record { mframes = m ∷ []; ended = true }
after (wrote n false) m w = more m w
after (refused k) m w = w

unfoldable pub written : List ℕ → Record → List Call → Written
written body r [] = record { mframes = []; ended = false }
written body r (c ∷ cs) =
    let s = preemptable_of (setting c r) body c.ask c.room in after s.said s.octets (written body s.after cs)

-- every call finds the port active
abbrev pub AllActive : List Call → Type 0
AllActive [] = Unit {0}
AllActive (c ∷ cs) = (c.active ≡ true) × AllActive cs

-- the data of an mFrame: what stands between the header's eight octets and the last four
abbrev pub data_in : List ℕ → List ℕ
data_in m = take (length m - 12) (drop 8 m)

-- the data of mFrames, one after the other
unfoldable pub joined : List (List ℕ) → List ℕ
joined [] = []
joined (m ∷ ms) = data_in m ++ joined ms

-- k continuations of a frame, from a fragment count on
unfoldable pub continuations : FrameCount → FragmentCount → ℕ → List Kind
continuations n f zero = []
continuations n f (suc k) = Continuation n f ∷ continuations n (next_fragment f) k

-- the k mFrames of a frame: S, then C with fragment counts 0, 1, 2, 3, 0 and so on
abbrev pub frame_kinds : FrameCount → ℕ → List Kind
frame_kinds n zero = []
frame_kinds n (suc k) = Start n ∷ continuations n (fragment 0) k
