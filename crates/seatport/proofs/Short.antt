-- What the sending calls answer and hand back fits words of 32 bits.
-- Assumes nothing.
use mathlib.Core.Path.{◌≡◌, refl}
use mathlib.Core.Bool.{Bool, true, false, cond}
use mathlib.Core.List.{List}
use Prim.Native.Nat.{ℕ, ◌+◌, ◌-◌, ◌≤◌, ◌<◌, ◌^◌}
use native.Mathlib.Omega.{arith}
use borrow.Author.Tests.{ltb-false}
use lib.Dec.{ltb}
use lib.ListN.{length, take, drop, length-take, length-drop}
use Rattle.std.specs.Prelude.{Option, Some, None}
use Rattle.crc.specs.Crc.{all_ones, register_over, fcs_of, mcrc_of}
use Rattle.crc.proofs.Laws.{fcs_length, mcrc_length}
use Rattle.mframe.specs.Octets.{mframe_of}
use Rattle.sender_answers.specs.Answers.{refuse, write, short, outside}
use Rattle.single.specs.Single.{express_of, zeros, order_of}
use Rattle.mframe.specs.declared.Kind.{Kind}
use Rattle.mframe.specs.declared.Kind.TheVariants.{Express}
use Rattle.mframe.proofs.Laws.{mframe_length}
use Rattle.sender_record.specs.Refusals.{refusal_of}
use Rattle.sender_record.specs.declared.Record.{Record}
use Rattle.sender_record.proofs.Laws.{passed}
use Rattle.sender_part.specs.Parts.{part_now, end_of, is_done, kind_of}
use Rattle.send.specs.Preemptable.{check_of, record_after, mframe, sent_of, unless, preemptable_of}
use Rattle.sender_part.proofs.Laws.{cut_within}
use Rattle.send.proofs.Laws.{check_length}
use Rattle.sent_words.specs.Sent.{Short}
use Rattle.rules.proofs.Tests.{neither}

pub express_short : (body : List ℕ) (room : ℕ) → Short (express_of body room).said
unfolding express_of
express_short body room = by (short room) (outside (length body)) refl
  where
    by : (a b : Bool) → outside (length body) ≡ b → Short (cond a (refuse 30) (cond b (refuse 32) (write (mframe_of Express body (fcs_of (register_over all_ones body))) true))).said
    by true b e = tt
    by false true e = tt
    by false false e =
        let most = ltb-false 1518 (length body) (neither (ltb (length body) 60) (ltb 1518 (length body)) e).1 in
        omega (arith, most, mframe_length Express body (fcs_of (register_over all_ones body)), fcs_length (register_over all_ones body))

pub order_short : (kind : Kind) (room : ℕ) → Short (order_of kind room).said
unfolding order_of
order_short kind room = by (short room)
  where
    by : (a : Bool) → Short (cond a (refuse 30) (write (mframe_of kind zeros (mcrc_of (register_over all_ones zeros))) true)).said
    by true = tt
    by false = omega (arith, mframe_length kind zeros (mcrc_of (register_over all_ones zeros)), mcrc_length (register_over all_ones zeros))

-- the mFrame of a part
part_short : (r : Record) (body : List ℕ) (to : ℕ) (done : Bool) → length body ≤ 1518 → length (mframe r body to done) < 2 ^ 32
part_short r body to done most =
    let register = register_over all_ones (take to body) in
    omega (
      arith,
      most,
      mframe_length (kind_of r) (take (to - r.sent) (drop r.sent body)) (check_of register done),
      length-take (to - r.sent) (drop r.sent body),
      length-drop r.sent body,
      check_length register done,
    )

pub sent_short : (r : Record) (body : List ℕ) (ask : Option ℕ) (room : ℕ) → Short (preemptable_of r body ask room).said
unfolding sent_of
sent_short r body ask room = by (refusal_of r (length body) room) refl
  where
    by : (o : Option ℕ) → refusal_of r (length body) room ≡ o → Short (unless o r (sent_of r body ask)).said
    by (Some k) q = tt
    by None q =
        let p = part_now r (length body) ask in
        part_short r body (end_of r.sent (length body) p) (is_done p) (passed r (length body) room q).most

-- a record's length and octets sent
pub record Fits (r : Record) : Type 0 where
  pub length : r.length < 2 ^ 32
  pub sent : r.sent < 2 ^ 32

after_part : (r : Record) (n : ℕ) (p : Option ℕ) → n ≤ 1518 → ((k : ℕ) → p ≡ Some k → r.sent + k + 60 ≤ n)
    → Fits (record_after r n (end_of r.sent n p) (is_done p))
after_part r n None most within = record { length = omega arith; sent = omega arith }
after_part r n (Some k) most within = record { length = omega (arith, most); sent = omega (arith, most, within k refl) }

pub after_short : (r : Record) (body : List ℕ) (ask : Option ℕ) (room : ℕ) → Fits r → Fits (preemptable_of r body ask room).after
unfolding sent_of
after_short r body ask room fits = by (refusal_of r (length body) room) refl
  where
    by : (o : Option ℕ) → refusal_of r (length body) room ≡ o → Fits (unless o r (sent_of r body ask)).after
    by (Some k) q = fits
    by None q =
        after_part r (length body) (part_now r (length body) ask) (passed r (length body) room q).most (λ k e. (cut_within r (length body) ask k e).left)
