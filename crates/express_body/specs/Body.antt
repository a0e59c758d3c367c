-- The body of an express mFrame (document 01, "Receiving"). Assumes nothing.
use Rattle.std.specs.Prelude.{◌≡◌, Bool, true, false, cond, List, [], ℕ, ◌+◌, eqb, length}
use Rattle.std.specs.Borrow.{Bor}
use Rattle.crc.specs.Crc.{all_ones}
use Rattle.endings.specs.Judge.{ending_of}
use Rattle.endings.specs.declared.Ending.{Ending}
use Rattle.endings.specs.declared.Ending.TheVariants.{Done, More, Damaged}
use Rattle.heads.specs.Head.{Reading, known, refused, head_of}
use Rattle.mframe.specs.declared.Kind.{Kind}
use Rattle.mframe.specs.declared.Kind.TheVariants as K
use Rattle.receiver_record.specs.Records.{fresh}
use Rattle.receive.specs.Receive.{received_of, data_in}
use Rattle.express_body.specs.declared.Part.{Part}

-- whether the last four octets are the FCS of the frame so far
abbrev pub is_done : Ending → Bool
is_done (Done n) = true
is_done (More n running) = false
is_done Damaged = false

-- whether an mFrame of a kind, by its data and check octets, is an express frame that is delivered
abbrev pub express_delivered : Kind → List ℕ → Bool
express_delivered K.Express octets = is_done (ending_of all_ones octets)
express_delivered (K.Start frame) octets = false
express_delivered (K.Continuation frame fragment) octets = false
express_delivered K.Verify octets = false
express_delivered K.Respond octets = false

-- whether "it would be 0 with a fresh record and a buffer of 1,518"
abbrev pub delivered : List ℕ → Bool
delivered m = eqb (received_of m fresh 1518).said.number 0

-- the octets of the express body: the data, "places 8 up to the last four", which begin at the header's end (document 02, (vi)),
-- "else the empty part"
unfoldable pub body_of : List ℕ → List ℕ
body_of m = cond (delivered m) (data_in (head_of m) m) []

-- its place in the mFrame: where the head says that the data begin, else "at its front"
abbrev pub begin_of : Reading → ℕ
begin_of (known kind place) = place
begin_of (refused number detail) = 0

unfoldable pub place_of : List ℕ → ℕ
place_of m = cond (delivered m) (begin_of (head_of m)) 0

-- both as numbers
abbrev pub part_in : List ℕ → Part
part_in m = record { start = place_of m; length = length (body_of m) }

-- the promise of express_body, "handed back as the caller's own octets": a slice is the octets in it and where it lies, a block of memory and an
-- offset there; what is handed back has the body's octets, and lies in the mFrame's own block, at the body's place behind the mFrame's front
pub record HandedBack (mframe part : Bor (List ℕ)) : Type 0 where
  pub octets : part.now ≡ body_of mframe.now
  pub block : part.ref_ptr.0 ≡ mframe.ref_ptr.0
  pub offset : part.ref_ptr.1 ≡ mframe.ref_ptr.1 + place_of mframe.now
