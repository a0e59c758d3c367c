-- The preemptable call (document 01, "Sending"): what it answers, the record after it, and what it writes. Assumes nothing.
use Rattle.std.specs.Prelude.{◌≡◌, Bool, true, false, cond, List, [], ℕ, ◌-◌, eqb, length, take, drop, Option, Some, None}
use Rattle.octets.specs.Laid.{over}
use Rattle.crc.specs.Crc.{all_ones, register_over, fcs_of, mcrc_of}
use Rattle.codes.specs.Codes.{fragment, next_frame, next_fragment}
use Rattle.codes.specs.declared.FrameCount.{FrameCount}
use Rattle.codes.specs.declared.FragmentCount.{FragmentCount}
use Rattle.mframe.specs.Octets.{mframe_of}
use Rattle.sender_answers.specs.Answers.{Said, wrote, refused, said}
use Rattle.sender_record.specs.Refusals.{refusal_of}
use Rattle.sender_record.specs.declared.Record.{Record}
use Rattle.sender_part.specs.Parts.{part_now, end_of, is_done, kind_of}
use Rattle.send.specs.declared.Sending.{Sending}

-- the frame's FCS where it is done, else its mCRC
abbrev pub check_of : ℕ → Bool → List ℕ
check_of register true = fcs_of register
check_of register false = mcrc_of register

-- "The next frame count moves on in the call that writes the S"
unfoldable pub frame_after : Record → FrameCount
frame_after r = cond (eqb r.length 0) (cond r.active (next_frame r.next) r.next) r.next

-- "The fragment count is 0 in the first continuation, then up by one modulo 4"
unfoldable pub fragment_after : Record → FragmentCount
fragment_after r = cond (eqb r.length 0) (fragment 0) (next_fragment r.fragment)

-- the record after a part that ends at octet to of a body of n
abbrev pub record_after : Record → ℕ → ℕ → Bool → Record
record_after r n to true =
    record { active = r.active; hold = r.hold; extra = r.extra; next = frame_after r; length = 0; sent = 0; fragment = fragment 0 }
record_after r n to false =
    record { active = r.active; hold = r.hold; extra = r.extra; next = frame_after r; length = n; sent = to; fragment = fragment_after r }

-- the mFrame: header, the part's octets, and the check octets "over all of the frame's octets sent so far"
abbrev pub mframe : Record → List ℕ → ℕ → Bool → List ℕ
mframe r body to done =
    mframe_of (kind_of r) (take (to - r.sent) (drop r.sent body)) (check_of (register_over all_ones (take to body)) done)

-- what is answered, the record afterwards, and what then stands at the buffer's front
pub record Step : Type 0 where
  pub said : Said
  pub after : Record
  pub octets : List ℕ

-- "A refusal writes nothing and hands the record back"
abbrev pub stay : ℕ → Record → Step
stay k r = record { said = refused k; after = r; octets = [] }

abbrev pub go : Record → List ℕ → ℕ → Bool → Step
go r body to done =
    record { said = wrote (length (mframe r body to done)) done; after = record_after r (length body) to done; octets = mframe r body to done }

-- a part that no test refused
unfoldable pub sent_of : Record → List ℕ → Option ℕ → Step
sent_of r body ask = go r body (end_of r.sent (length body) (part_now r (length body) ask)) (is_done (part_now r (length body) ask))

abbrev pub unless : Option ℕ → Record → Step → Step
unless None r step = step
unless (Some k) r step = stay k r

abbrev pub preemptable_of : Record → List ℕ → Option ℕ → ℕ → Step
preemptable_of r body ask room = unless (refusal_of r (length body) room) r (sent_of r body ask)

-- the promise of a preemptable call: its answer, the record afterwards, and every octet of the buffer, which was out and is out'
pub record Sent (p : Step) (out : List ℕ) (s : Sending) (out' : List ℕ) : Type 0 where
  pub answer : said s.answer ≡ p.said
  pub after : s.after ≡ p.after
  pub octets : out' ≡ over p.octets out
