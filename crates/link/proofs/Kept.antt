-- A preemptable mFrame that arrives keeps what holds between the two ends, and delivers what is expected. Assumes nothing.
use mathlib.Core.Path.{◌≡◌, refl, ap, ◌∙◌}
use mathlib.Core.Bool.{Bool, true, false, ◌&&◌, ◌||◌}
use mathlib.Core.List.{List, [], ◌∷◌, ◌++◌}
use Prim.Native.Nat.{ℕ, ◌+◌, ◌-◌, ◌%◌, ◌≤◌, ◌<◌}
use native.Mathlib.Omega.{arith}
use borrow.Author.Tests.{le-ltb, eq-eqb, ne_eqb}
use lib.Dec.{eqb}
use lib.ListN.{length, take, length-append}
use Rattle.octets.specs.Laid.{laid}
use Rattle.crc.specs.Crc.{all_ones, register_over, fcs_of, mcrc_of}
use Rattle.endings.specs.Judge.{ending_of}
use Rattle.endings.specs.declared.Ending.TheVariants.{Done, More}
use Rattle.crc.proofs.Laws.{register_append, fcs_length, mcrc_length}
use Rattle.endings.proofs.Endings.{ending_done, ending_more}
use Rattle.codes.specs.Codes.{frame, fragment}
use Rattle.mframe.proofs.Laws.{Counted}
use Rattle.send.specs.Preemptable.{check_of}
use Rattle.counters.specs.declared.Counters.{Counters}
use Rattle.receiver_record.specs.declared.Record.{Record}
use Rattle.receiver_answers.specs.Answers.{Said, says}
use Rattle.receiver_record.specs.Records.{shut, opened}
use Rattle.outcomes.specs.Outcomes.{Step}
use Rattle.continuing.specs.Continuing.{ended_of, continuation_of}
use Rattle.assembly.specs.Steps.{step_of}
use Rattle.receive.specs.Receive.{left_of}
use Rattle.link.specs.Frames.{if_so}
use Rattle.link.proofs.Counts.{apart}
use Rattle.link.proofs.Flow.{Sender, idle, busy, sofar, kind_from, onward}
use Rattle.link.proofs.Buffer.{keeps, as_long}
use Rattle.link.proofs.Inv.{Open, Inv, closed_idle, closed_torn, in_step, late_piece, late_idle, late_frame}

-- a preemptable mFrame arrives: what is answered, the record and the buffer after it
pub record Kept (s : Sender) (w : Bool) (d : List ℕ) (e : Bool) (n : ℕ) (v : Said) (r : Record) (B : List ℕ) : Type 0 where
  pub inv : Inv (onward s d e) (e || w) r B 0
  pub long : length B ≡ n
  pub delivers : if_so (eqb v.number 1) (take v.detail B) ≡ if_so (e && w) (sofar s ++ d)
  pub no_express : eqb v.number 0 ≡ false

abbrev Keeps : Sender → Bool → List ℕ → Bool → List ℕ → Step → Type 0
Keeps s w d e B t = Kept s w d e (length B) t.said t.after (left_of t.said d B)

-- what data and check octets end with, behind octets a of their frame
ends_done : (a d : List ℕ) → ending_of (register_over all_ones a) (d ++ fcs_of (register_over all_ones (a ++ d))) ≡ Done (length d)
ends_done a d = rw (register_append all_ones a d) (ending_done (register_over all_ones a) d)

ends_more : (a d : List ℕ) → ending_of (register_over all_ones a) (d ++ mcrc_of (register_over all_ones (a ++ d))) ≡ More (length d) (register_over all_ones (a ++ d))
ends_more a d = rw (register_append all_ones a d) (ending_more (register_over all_ones a) d)

module _ (B d : List ℕ) where
  -- the piece d, behind the octets a of its frame, with its check octets
  abbrev checked : List ℕ → Bool → List ℕ
  checked a e = d ++ check_of (register_over all_ones (a ++ d)) e

  -- a continuation of a frame that lost an mFrame is dropped
  torn_kept : (k j : ℕ) (a : List ℕ) (e : Bool) (n : ℕ) (x : Counters) → eqb n 0 ≡ false → eqb n 1 ≡ false
      → Kept (busy k j a) false d e (length B) (says n 0) (shut x) B
  torn_kept k j a true n x p q = record { inv = closed_idle; long = refl; delivers = rw q; no_express = p }
  torn_kept k j a false n x p q = record { inv = closed_torn; long = refl; delivers = rw q; no_express = p }

  -- 22
  stray_kept : (k j : ℕ) (a : List ℕ) (e : Bool) (x : Counters) → Keeps (busy k j a) false d e B (step_of (kind_from (busy k j a)) (checked a e) (shut x))
  unfolding continuation_of
  stray_kept k j a e x = torn_kept k j a e 22 _ refl refl

  -- 23
  frame_kept : (k j : ℕ) (a : List ℕ) (e : Bool) (kr jr n g : ℕ) (x : Counters) → (k ≡ kr → ⊥)
      → Keeps (busy k j a) false d e B (step_of (kind_from (busy k j a)) (checked a e) (opened (frame kr) (fragment jr) n g x))
  unfolding continuation_of
  frame_kept k j a e kr jr n g x h = rw (ne_eqb k kr h) (torn_kept k j a e 23 _ refl refl)

  piece_kept : (k j : ℕ) (a : List ℕ) (e : Bool) (jr n g : ℕ) (x : Counters) → (j ≡ jr → ⊥)
      → Keeps (busy k j a) false d e B (step_of (kind_from (busy k j a)) (checked a e) (opened (frame k) (fragment jr) n g x))
  unfolding continuation_of
  piece_kept k j a e jr n g x h = rw (eq-eqb k k refl, ne_eqb j jr h) (torn_kept k j a e 23 _ refl refl)

  module _ (low : 60 ≤ length d) (room : 1518 ≤ length B) where
    -- a start, whatever was in assembly
    start-kept : (r : Record) (k : ℕ) → k < 4 → length d ≤ 1518 → (e : Bool) → Keeps (idle k) true d e B (step_of (kind_from (idle k)) (checked [] e) r)
    start-kept r k h high true =
        rw (ending_done all_ones d) (record {
          inv = closed_idle;
          long = as_long B d 0 (length d) (omega arith) (omega arith);
          delivers = ap (λ (l : List ℕ). l ∷ []) (keeps B d 0 (length d) (omega arith) (omega arith));
          no_express = refl;
        })
    start-kept r k h high false =
        rw (ending_more all_ones d) (record {
          inv = in_step {j = 0} (record { k_low = h; j_low = omega arith; least = low; most = high }) (keeps B d 0 (length d) (omega arith) (omega arith)) refl;
          long = as_long B d 0 (length d) (omega arith) (omega arith);
          delivers = refl;
          no_express = refl;
        })

    -- a continuation of the frame in assembly
    module _ (a : List ℕ) (k j : ℕ) (x : Counters) (o : Open k j (length a)) (kept : take (length a) B ≡ a) (high : length (a ++ d) ≤ 1518) where
      abbrev assembling : Record
      assembling = opened (frame k) (fragment j) (length a) (register_over all_ones a) x

      total : (check : List ℕ) → length check ≡ 4 → length a + (length (d ++ check) - 4) ≡ length (a ++ d)
      total check four = omega (arith, length-append d check, length-append a d)

      passes : (check : List ℕ) → length check ≡ 4
          → continuation_of (frame k) (fragment j) (d ++ check) assembling ≡ ended_of (length (a ++ d)) (ending_of (register_over all_ones a) (d ++ check)) assembling
      unfolding continuation_of
      passes check four = rw (eq-eqb k k refl, eq-eqb j j refl, total check four, le-ltb 1518 (length (a ++ d)) high)

      in_buffer : take (length (a ++ d)) (laid B (length (a ++ d) - length d) d) ≡ a ++ d
      in_buffer = keeps B d (length a) (length (a ++ d)) (length-append a d) (omega arith) ∙ ap (λ (l : List ℕ). l ++ d) kept

      piece-ends : (e : Bool) → Keeps (busy k j a) true d e B (step_of (kind_from (busy k j a)) (checked a e) assembling)
      piece-ends true =
          rw (passes _ (fcs_length (register_over all_ones (a ++ d))), ends_done a d) (record {
            inv = closed_idle;
            long = as_long B d (length a) (length (a ++ d)) (length-append a d) (omega arith);
            delivers = ap (λ (l : List ℕ). l ∷ []) in_buffer;
            no_express = refl;
          })
      piece-ends false =
          rw (passes _ (mcrc_length (register_over all_ones (a ++ d))), ends_more a d) (record {
            inv = in_step {j = (j + 1) % 4} {a = a ++ d}
                (record { k_low = o.k_low; j_low = omega arith; least = omega (arith, length-append a d); most = high })
                in_buffer refl;
            long = as_long B d (length a) (length (a ++ d)) (length-append a d) (omega arith);
            delivers = refl;
            no_express = refl;
          })

-- a preemptable mFrame arrives, at most three having been lost before it
pub inv_kept : {s : Sender} {w : Bool} {r : Record} {B : List ℕ} {c : ℕ} → Inv s w r B c → c ≤ 3 → 1518 ≤ length B
    → (d : List ℕ) (e : Bool) → Counted (kind_from s) → 60 ≤ length d → length (sofar s ++ d) ≤ 1518
    → Keeps s w d e B (step_of (kind_from s) (d ++ check_of (register_over all_ones (sofar s ++ d)) e) r)
inv_kept {B = B} (closed_idle {k = k}) u room d e n low high = start-kept B d low room _ k n high e
inv_kept {B = B} (late_idle {k = k} _ o q l m) u room d e n low high = start-kept B d low room _ k n high e
inv_kept {B = B} (in_step {k = k} {j = j} {a = a} o t z) u room d e n low high = piece-ends B d low room a k j _ o t high e
inv_kept {B = B} (closed_torn {k = k} {j = j} {a = a}) u room d e n low high = stray_kept B d k j a e _
inv_kept {B = B} (late_piece {k = k} {j = j} {jr = jr} {c = c} {a = a} o q l) u room d e n low high =
    piece_kept B d k j a e jr _ _ _ (apart jr j c q l u)
inv_kept {B = B} (late_frame {k = k} {j = j} {kr = kr} {jr = jr} {a = a} i o q l m) u room d e n low high =
    frame_kept B d k j a e kr jr _ _ _ (apart kr k i q l (omega arith))
