-- Check octets are four; and a record in range stays in range.
-- Assumes nothing.
use mathlib.Core.Path.{◌≡◌, refl, ap, ◌∙◌}
use mathlib.Core.Bool.{Bool, true, false, cond}
use mathlib.Core.List.{List}
use Prim.Native.Nat.{ℕ, ◌+◌, ◌≤◌}
use native.Mathlib.Omega.{arith}
use borrow.Author.Tests.{le-leb, ne_eqb}
use lib.Dec.{eqb}
use lib.ListN.{length}
use Rattle.std.specs.Prelude.{Option, Some, None, Ok}
use Rattle.octets.specs.Laid.{over}
use Rattle.crc.proofs.Laws.{fcs_length, mcrc_length}
use Rattle.codes.specs.Codes.{fragment, next_frame, next_fragment}
use Rattle.codes.specs.declared.FrameCount.{FrameCount}
use Rattle.codes.specs.declared.FragmentCount.{FragmentCount}
use Rattle.mframe.specs.Octets.{Laid}
use Rattle.sender_answers.specs.Answers.{wrote}
use Rattle.sender_record.specs.Record.{idle, going, in_range}
use Rattle.sender_record.specs.Refusals.{refusal_of}
use Rattle.sender_record.specs.declared.Record.{Record}
use Rattle.sender_record.proofs.Laws.{Range, passed}
use Rattle.sender_part.specs.Parts.{part_now, end_of, is_done, Ends}
use Rattle.sender_part.specs.declared.End.{End}
use Rattle.sender_part.proofs.Laws.{Within, cut_within}
use Rattle.send.specs.Preemptable.{check_of, frame_after, fragment_after, record_after, mframe, sent_of, unless, preemptable_of, Sent}

-- check octets are four
pub check_length : (register : ℕ) (done : Bool) → length (check_of register done) ≡ 4
check_length register true = fcs_length register
check_length register false = mcrc_length register

-- the counts after a part are under 4
frame_small : (a b : Bool) (x : FrameCount) → x.0 ≤ 3 → (cond a (cond b (next_frame x) x) x).0 ≤ 3
frame_small true true x h = omega arith
frame_small true false x h = h
frame_small false b x h = h

fragment_small : (a : Bool) (x : FragmentCount) → (cond a (fragment 0) (next_fragment x)).0 ≤ 3
fragment_small true x = omega arith
fragment_small false x = omega arith

-- the record after a part is in range
after_in_range : (r : Record) (n : ℕ) (p : Option ℕ) → Range r → n ≤ 1518 → ((k : ℕ) → p ≡ Some k → Within r n (r.sent + k))
    → in_range (record_after r n (end_of r.sent n p) (is_done p)) ≡ true
unfolding in_range idle going frame_after fragment_after
after_in_range r n None g h w =
    simp (le-leb r.extra 3 g.extra, le-leb (frame_after r).0 3 (frame_small (eqb r.length 0) r.active r.next g.next))
after_in_range r n (Some k) g h w =
    let b = w k refl in
    simp (
      le-leb r.extra 3 g.extra,
      le-leb (frame_after r).0 3 (frame_small (eqb r.length 0) r.active r.next g.next),
      ne_eqb n 0 (omega (arith, b.left)),
      le-leb 60 n (omega (arith, b.left)),
      le-leb n 1518 h,
      le-leb 60 (r.sent + k) (omega (arith, b.part)),
      le-leb (r.sent + k + 60) n b.left,
      le-leb (fragment_after r).0 3 (fragment_small (eqb r.length 0) r.fragment),
    )

-- from a record in range every call hands back a record in range
pub stays_in_range : (r : Record) (body : List ℕ) (ask : Option ℕ) (room : ℕ) → in_range r ≡ true → in_range (preemptable_of r body ask room).after ≡ true
unfolding sent_of
stays_in_range r body ask room e = by (refusal_of r (length body) room) refl
  where
    by : (o : Option ℕ) → refusal_of r (length body) room ≡ o → in_range (unless o r (sent_of r body ask)).after ≡ true
    by (Some k) q = e
    by None q =
        let k = passed r (length body) room q in
        after_in_range r (length body) (part_now r (length body) ask) k.range k.most (cut_within r (length body) ask)

-- a part laid, which is the one asked for, is an answer with its octets and the record after it
pub part_sent : (r : Record) (body : List ℕ) (ask : Option ℕ) (out : List ℕ) {out' f : List ℕ} {e : End} {n : ℕ} {after : Record}
    → Ends r (length body) (part_now r (length body) ask) e → Laid f out n out' → f ≡ mframe r body e.to e.done
    → after ≡ record_after r (length body) e.to e.done
    → Sent (sent_of r body ask) out (record { answer = Ok (record { length = n; done = e.done }); after = after }) out'
unfolding sent_of
part_sent r body ask out {e = e} ends l same a =
    rw (← ends.end, ← ends.done)
    (record {
      answer = ap (λ (k : ℕ). wrote k e.done) (l.count ∙ ap length same);
      after = a;
      octets = l.octets ∙ ap (λ (x : List ℕ). over x out) same;
    })
