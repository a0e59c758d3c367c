-- One call keeps a record right: not assembling, or assembling with the buffer's first octets, whose register is the running CRC.
-- Assumes nothing.
use mathlib.Core.Path.{◌≡◌, refl, sym, ap, ◌∙◌}
use mathlib.Core.Bool.{Bool, true, false, not, cond}
use mathlib.Core.List.{List, [], ◌++◌}
use Prim.Native.Nat.{ℕ, ◌+◌, ◌-◌, ◌≤◌, ◌<◌}
use native.Mathlib.Omega.{arith}
use borrow.Author.Tests.{le-leb, ltb-false}
use lib.Dec.{ltb}
use lib.ListN.{length, take, drop, length-append, length-drop}
use lib.Seq.{take_at, length-take-le}
use Rattle.octets.specs.Laid.{laid}
use Rattle.octets.proofs.Laid.{length_laid}
use Rattle.codes.specs.Codes.{fragment, next_fragment}
use Rattle.codes.specs.declared.FrameCount.{FrameCount}
use Rattle.codes.specs.declared.FragmentCount.{FragmentCount}
use Rattle.crc.specs.Crc.{all_ones, register_over}
use Rattle.endings.specs.Judge.{data_of, ending_of}
use Rattle.endings.specs.declared.Ending.{Ending}
use Rattle.endings.specs.declared.Ending.TheVariants.{Done, More, Damaged}
use Rattle.crc.proofs.Laws.{register_append}
use Rattle.heads.specs.Head.{Reading, known, refused, head_of}
use Rattle.mframe.specs.declared.Kind.{Kind}
use Rattle.mframe.specs.declared.Kind.TheVariants as K
use Rattle.mframe.proofs.Laws.{Counted}
use Rattle.counters.specs.declared.Counters.{Counters}
use Rattle.receiver_record.specs.declared.Record.{Record}
use Rattle.receiver_answers.specs.Answers.{Said, says}
use Rattle.counters.specs.Counters.{strayed}
use Rattle.receiver_record.specs.Records.{shut, opened, counting, in_range}
use Rattle.outcomes.specs.Outcomes.{Step, unchanged, abandoned}
use Rattle.continuing.specs.Continuing.{ended_of, unexpected, total_of, continuation_of}
use Rattle.starting.specs.Starting.{start_of}
use Rattle.assembly.specs.Steps.{express_of, heard_of, step_of}
use Rattle.receive.specs.Receive.{by_head, received_of, up_to, left_of, data_in, buffer_of}
use Rattle.heads.proofs.Heads.{Refusal, n12, n13, n14, n15, n17, Good, head_good}
use Rattle.endings.proofs.Endings.{data_length, Ends, ends}

-- an assembly that is open
pub record Held (f : FrameCount) (g : FragmentCount) (n c : ℕ) (b : List ℕ) : Type 0 where
  pub frame_low : f.0 < 4
  pub fragment_low : g.0 < 4
  pub low : 60 ≤ n
  pub high : n ≤ 1518
  pub room : n ≤ length b
  pub running : c ≡ register_over all_ones (take n b)

pub data Right : Record → List ℕ → Type 0 where
  idle : {k : Counters} {b : List ℕ} → Right (shut k) b
  going : {f : FrameCount} {g : FragmentCount} {n c : ℕ} {k : Counters} {b : List ℕ} → Held f g n c b → Right (opened f g n c k) b

-- the first octets, after more were laid behind those kept
take_up : (p b : List ℕ) (k n : ℕ) → n ≡ k + length p → n ≤ length b → take n (up_to n p b) ≡ take k b ++ p
unfolding laid
take_up p b k n e h =
    let at : n - length p ≡ k = omega arith in
    rw at (take_at (take k b ++ p) (drop (k + length p) b) n (length-append (take k b) p ∙ ap (λ (x : ℕ). x + length p) (length-take-le k b (omega arith)) ∙ sym e))

module _ (s b : List ℕ) (low : 64 ≤ length s) (high : length s ≤ 1522) (space : 1518 ≤ length b) where
  abbrev Kept : Step → Type 0
  Kept p = Right p.after (left_of p.said (data_of s) b)

  held : (f : FrameCount) (g : FragmentCount) (k n c run : ℕ) → f.0 < 4 → g.0 < 4 → n ≡ k + (length s - 4) → n ≤ 1518
      → run ≡ register_over all_ones (take k b) → c ≡ register_over run (data_of s) → Held f g n c (up_to n (data_of s) b)
  held f g k n c run hf hg e h q w =
      let d = data_length s in
      record {
        frame_low = hf;
        fragment_low = hg;
        low = omega arith;
        high = h;
        room = let l = length_laid b (n - length (data_of s)) (data_of s) (omega arith) in omega arith;
        running = w ∙ ap (λ (x : ℕ). register_over x (data_of s)) q ∙ sym (register_append all_ones (take k b) (data_of s))
            ∙ ap (register_over all_ones) (sym (take_up (data_of s) b k n (omega arith) (omega arith)));
      }

  start_right : (f : FrameCount) (r : Record) (e : Ending) → f.0 < 4 → Ends all_ones s e → Kept (start_of f e r)
  unfolding register_over
  start_right f r (Done n) h w = idle
  start_right f r (More n c) h w = going (held f (fragment 0) 0 n c all_ones h (omega arith) (omega arith) (omega arith) refl w.1)
  start_right f r Damaged h w = idle

  express_right : (e : Ending) (r : Record) → Right r b → Kept (express_of e r)
  express_right (Done n) r w = w
  express_right (More n c) r w = w
  express_right Damaged r w = w

  heard_right : (heard : Said) (e : Ending) (r : Record) → Kept (unchanged heard r) → Right r b → Kept (heard_of heard e r)
  heard_right heard (Done n) r q w = w
  heard_right heard (More n c) r q w = q
  heard_right heard Damaged r q w = w

  module _ (f : FrameCount) (g : FragmentCount) (n c : ℕ) (k : Counters) (w : Held f g n c b) where
    abbrev now : Record
    now = opened f g n c k

    ended-right : (e : Ending) → Ends c s e → total_of s now ≤ 1518 → Kept (ended_of (total_of s now) e now)
    ended-right (Done i) q h = idle
    ended-right (More i x) q h =
        going (held f (next_fragment g) n (total_of s now) x c w.frame_low (omega arith) refl h w.running q.1)
    ended-right Damaged q h = idle

    tests-right : (x y : Bool) → ltb 1518 (total_of s now) ≡ y
        → Kept (cond x (abandoned (says 23 0) now) (cond y (abandoned (says 24 0) now) (ended_of (total_of s now) (ending_of c s) now)))
    tests-right true y q = idle
    tests-right false true q = idle
    tests-right false false q = ended-right (ending_of c s) (ends c s) (ltb-false _ _ q)

  continuation_right : (f : FrameCount) (g : FragmentCount) {r : Record} → Right r b → Kept (continuation_of f g s r)
  unfolding continuation_of
  continuation_right f g idle = idle
  continuation_right f g (going {f = f'} {g = g'} {n = n} {c = c} {k = k} w) =
      tests-right f' g' n c k w (unexpected f g (opened f' g' n c k)) (ltb 1518 (total_of s (opened f' g' n c k))) refl

  kind_right : (kind : Kind) {r : Record} → Counted kind → Right r b → Kept (step_of kind s r)
  kind_right K.Express {r} h w = express_right (ending_of all_ones s) r w
  kind_right (K.Start f) {r} h w = start_right f r (ending_of all_ones s) h (ends all_ones s)
  kind_right (K.Continuation f g) h w = continuation_right f g w
  kind_right K.Verify {r} h w = heard_right (says 3 0) (ending_of all_ones s) r w w
  kind_right K.Respond {r} h w = heard_right (says 4 0) (ending_of all_ones s) r w w

-- a head that is refused, with a number from 12 to 15 or 17
stray_right : {r : Record} {b : List ℕ} → Right r b → Right (counting (strayed r.counters) r) b
stray_right idle = idle
stray_right (going w) = going w

refused_right : {n d : ℕ} {r : Record} {b : List ℕ} → Refusal n d → Right r b
    → Right (unchanged (says n d) r).after (left_of (says n d) [] b)
refused_right n12 w = w
refused_right n13 w = w
refused_right n14 w = w
refused_right (n15 bits h) w = stray_right w
refused_right n17 w = stray_right w

head_right : (m : List ℕ) {r : Record} {b : List ℕ} (h : Reading) → Good (length m) h → 1518 ≤ length b → Right r b
    → Right (by_head h m r).after (left_of (by_head h m r).said (data_in h m) b)
head_right m (known kind place) g h w =
    let l : length (drop place m) ≡ length m - place = length-drop place m in
    kind_right (drop place m) _ (omega arith) (omega arith) h kind g.counted w
head_right m (refused n d) g h w = refused_right g w

-- such a record is in range
pub right_ranges : {r : Record} {b : List ℕ} → Right r b → in_range r ≡ true
unfolding in_range
right_ranges idle = refl
right_ranges (going {f} {g} {n} w) =
    simp (le-leb f.0 3 (omega arith), le-leb g.0 3 (omega arith), le-leb 60 n w.low, le-leb n 1518 w.high)

-- a call, on the buffer as it leaves it
pub right_after : (m : List ℕ) {r : Record} {b : List ℕ} → Right r b → Right (received_of m r (length b)).after (buffer_of m r b)
unfolding received_of buffer_of
right_after m {r} {b} w = go (ltb (length b) 1518) (in_range r) refl (right_ranges w)
  where
    step : Bool → Bool → Step
    step t u = cond t (unchanged (says 10 0) r) (cond (not u) (unchanged (says 11 0) r) (by_head (head_of m) m r))

    go : (t u : Bool) → ltb (length b) 1518 ≡ t → u ≡ true → Right (step t u).after (left_of (step t u).said (data_in (head_of m) m) b)
    go true u p q = w
    go false false p q = w
    go false true p q = head_right m (head_of m) (head_good m) (ltb-false _ _ p) w
