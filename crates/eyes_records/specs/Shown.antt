-- An mFrame as a capture for eyes shows it: where its mCRC is right by document 01 the standard's stands in its place, over the same octets.
-- Assumes nothing.
use Rattle.std.specs.Prelude.{◌≡◌, Bool, true, false, cond, ◌||◌, List, ◌++◌, ℕ, eqb, length, drop}
use Rattle.octets.specs.Laid.{laid}
use Rattle.crc.specs.Crc.{all_ones, register_over, standard_mcrc_of}
use Rattle.endings.specs.Judge.{data_of}
use Rattle.heads.specs.Head.{Reading, known, refused, head_of}
use Rattle.mframe.specs.declared.Kind.{Kind}
use Rattle.mframe.specs.declared.Kind.TheVariants as K
use Rattle.receiver_answers.specs.declared.Answer.{Answer}
use Rattle.receiver_answers.specs.declared.Answer.TheVariants as A
use Rattle.receiver_record.specs.declared.Record.{Record}
use Rattle.receive.specs.Receive.{received_of, buffer_of}
use Rattle.pcap_headers.specs.Headers.{capture_record}

-- the numbers that are answered to an mFrame whose mCRC is right: 2 to a fragment that more follow, 3 and 4 to V and R
abbrev pub right_mcrc : ℕ → Bool
right_mcrc number = eqb number 2 || (eqb number 3 || eqb number 4)

-- which answers these are
abbrev pub has_mcrc : Answer → Bool
has_mcrc (A.Express n) = false
has_mcrc (A.Delivered n) = false
has_mcrc (A.Kept n) = true
has_mcrc A.VerifyHeard = true
has_mcrc A.RespondHeard = true
has_mcrc (A.Refused why) = false
has_mcrc (A.Dropped why) = false

-- the register before an mFrame's data: a continuation goes on from the running CRC, any other begins
abbrev pub register_before : Kind → Record → ℕ
register_before K.Express r = all_ones
register_before (K.Start frame) r = all_ones
register_before (K.Continuation frame fragment) r = r.running
register_before K.Verify r = all_ones
register_before K.Respond r = all_ones

-- the register over "all of the frame's octets sent so far"; where the head is refused there is no frame
abbrev pub register_behind : Reading → List ℕ → Record → ℕ
register_behind (known kind place) m r = register_over (register_before kind r) (data_of (drop place m))
register_behind (refused number detail) m r = all_ones

-- whether the receiver, with the record r and a buffer of so many octets, answers that an mFrame's mCRC is right
abbrev pub is_right : List ℕ → Record → ℕ → Bool
is_right m r room = right_mcrc (received_of m r room).said.number

-- the mFrame with the standard's mCRC for its last four octets, or as it is
unfoldable pub shown_of : List ℕ → Record → ℕ → List ℕ
shown_of m r room = cond (is_right m r room) (data_of m ++ standard_mcrc_of (register_behind (head_of m) m r)) m

-- the promise of put_shown_record: the receiver's record behind the mFrame, its buffer, which was b and is b', and all of the memory lent, which was
-- out and is out'
pub record Shows (m : List ℕ) (r : Record) (b out : List ℕ) (at : ℕ) (after : Record) (b' out' : List ℕ) : Type 0 where
  pub after_is : after ≡ (received_of m r (length b)).after
  pub buffer : b' ≡ buffer_of m r b
  pub octets : out' ≡ laid out at (capture_record (shown_of m r (length b)))
