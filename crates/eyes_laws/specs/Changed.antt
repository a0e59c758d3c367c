-- Where a capture for eyes differs from the plain one, and which mFrames it differs by. Assumes nothing.
use Rattle.std.specs.Prelude.{Bool, true, false, cond, ◌&&◌, ◌||◌, List, [], ◌∷◌, ℕ, ◌+◌, ltb, leb, length, drop}
use Rattle.crc.specs.Crc.{all_ones, inverted}
use Rattle.endings.specs.Judge.{ending_of}
use Rattle.endings.specs.declared.Ending.{Ending}
use Rattle.endings.specs.declared.Ending.TheVariants.{Done, More, Damaged}
use Rattle.heads.specs.Head.{Reading, known, refused}
use Rattle.mframe.specs.declared.Kind.TheVariants as K
use Rattle.receiver_record.specs.declared.Record.{Record}
use Rattle.receive.specs.Receive.{received_of}
use Rattle.eyes_records.specs.Shown.{is_right}
use Rattle.eyes.specs.Eyes.{buffer_length}

-- whether place i is one of the four before an end
abbrev pub in_check : (end i : ℕ) → Bool
in_check end i = ltb i end && leb end (i + 4)

-- whether place i of a capture holds a check octet of an mFrame that a receiver with the record r answers 2, 3 or 4, the first record of those left
-- beginning at a place
unfoldable pub changed_at : Record → List (List ℕ) → (at i : ℕ) → Bool
changed_at r [] at i = false
changed_at r (c ∷ cs) at i = (is_right c r buffer_length && in_check (at + (16 + length c)) i) || changed_at (received_of c r buffer_length).after cs (at + (16 + length c)) i

-- an octet, inverted or as it is
abbrev pub turned : Bool → ℕ → ℕ
turned b x = cond b (inverted x) x

-- whether more of a frame is to follow
abbrev pub has_more : Ending → Bool
has_more (Done n) = false
has_more (More n running) = true
has_more Damaged = false

-- whether octets are a fragment that more follow, any other continuation, a V or an R
abbrev pub is_part : Reading → List ℕ → Bool
is_part (known K.Express place) m = false
is_part (known (K.Start frame) place) m = has_more (ending_of all_ones (drop place m))
is_part (known (K.Continuation frame fragment) place) m = true
is_part (known K.Verify place) m = true
is_part (known K.Respond place) m = true
is_part (refused number detail) m = false
