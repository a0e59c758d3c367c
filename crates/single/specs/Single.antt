-- An express frame, V and R as their calls write them (document 01, "Sending"). Assumes nothing.
use Rattle.std.specs.Prelude.{true, cond, List, ℕ, length, replicate}
use Rattle.crc.specs.Crc.{all_ones, register_over, fcs_of, mcrc_of}
use Rattle.mframe.specs.Octets.{mframe_of}
use Rattle.mframe.specs.declared.Kind.{Kind}
use Rattle.mframe.specs.declared.Kind.TheVariants.{Express}
use Rattle.sender_answers.specs.Answers.{Outcome, refuse, write, short, outside}

-- "An express call takes a body and writes header, body, FCS." It knows 30 and 32 only
unfoldable pub express_of : List ℕ → ℕ → Outcome
express_of body room =
    cond (short room) (refuse 30)
    (cond (outside (length body)) (refuse 32) (write (mframe_of Express body (fcs_of (register_over all_ones body))) true))

-- "V and R carry 60 zero octets and an mCRC". They know 30 only
abbrev pub zeros : List ℕ
zeros = replicate 60 0

unfoldable pub order_of : Kind → ℕ → Outcome
order_of kind room = cond (short room) (refuse 30) (write (mframe_of kind zeros (mcrc_of (register_over all_ones zeros))) true)
