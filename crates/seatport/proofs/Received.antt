-- What receive answers and hands back fits words of 32 bits, and its own promise, told in words.
-- Assumes nothing.
use mathlib.Core.Path.{◌≡◌, refl, ap, ◌∙◌}
use mathlib.Core.Bool.{Bool, true, false, cond, not}
use mathlib.Core.List.{List}
use Prim.Native.Nat.{ℕ, ◌≤◌, ◌<◌, ◌^◌}
use native.Mathlib.Omega.{arith}
use borrow.Author.Tests.{ltb-false}
use lib.Dec.{ltb}
use lib.ListN.{length, drop, length-drop}
use Rattle.codes.specs.declared.FrameCount.{FrameCount}
use Rattle.codes.specs.declared.FragmentCount.{FragmentCount}
use Rattle.crc.specs.Crc.{all_ones}
use Rattle.endings.specs.Judge.{ending_of}
use Rattle.endings.specs.declared.Ending.{Ending}
use Rattle.endings.specs.declared.Ending.TheVariants.{Done, More, Damaged}
use Rattle.endings.proofs.Endings.{Ends, ends}
use Rattle.heads.specs.Head.{Reading, known, refused, head_of}
use Rattle.mframe.specs.declared.Kind.{Kind}
use Rattle.mframe.specs.declared.Kind.TheVariants as K
use Rattle.heads.proofs.Heads.{Good, head_good, detail_small}
use Rattle.receiver_record.specs.declared.Record.{Record}
use Rattle.outcomes.specs.declared.Received.{Received}
use Rattle.receiver_answers.specs.Answers.{says}
use Rattle.counters.specs.Counters.{strayed}
use Rattle.receiver_record.specs.Records.{in_range, counting}
use Rattle.outcomes.specs.Outcomes.{Step, told, delimiter_error, unchanged, abandoned}
use Rattle.continuing.specs.Continuing.{ended_of, unexpected, total_of, continuation_of}
use Rattle.starting.specs.Starting.{start_of}
use Rattle.assembly.specs.Steps.{express_of, heard_of, step_of}
use Rattle.receive.specs.Receive.{by_head, received_of, Answered}
use Rattle.receiver_words.specs.Receiver.{receiver_words}
use Rattle.seatport.specs.Receiving as S
use Rattle.rules.proofs.Tests.{chosen}

-- a step whose detail and octets kept fit words
pub record Fits (p : Step) : Type 0 where
  pub detail : p.said.detail < 2 ^ 32
  pub kept : p.after.kept < 2 ^ 32

module _ (r : Record) (k : r.kept < 2 ^ 32) where
  unchanged_fits : (number detail : ℕ) → detail ≤ 1518 → Fits (unchanged (says number detail) r)
  unchanged_fits number detail h =
      record { detail = omega (arith, h); kept = chosen (λ (q : Record). q.kept < 2 ^ 32) (delimiter_error number) (counting (strayed r.counters) r) r k k }

  module _ (s : List ℕ) (h : length s ≤ 1522) where
    express-fits : (e : Ending) → Ends all_ones s e → Fits (express_of e r)
    express-fits (Done n) q = unchanged_fits 0 n (omega (arith, h, q))
    express-fits (More n running) q = unchanged_fits 20 0 (omega arith)
    express-fits Damaged q = unchanged_fits 20 0 (omega arith)

    heard-fits : (number : ℕ) (e : Ending) → Fits (heard_of (says number 0) e r)
    heard-fits number (Done n) = unchanged_fits 21 0 (omega arith)
    heard-fits number (More n running) = unchanged_fits number 0 (omega arith)
    heard-fits number Damaged = unchanged_fits 21 0 (omega arith)

    start_fits : (f : FrameCount) (e : Ending) → Ends all_ones s e → Fits (start_of f e r)
    start_fits f (Done n) q = record { detail = omega (arith, h, q); kept = omega arith }
    start_fits f (More n running) q = record { detail = omega (arith, h, q.0); kept = omega (arith, h, q.0) }
    start_fits f Damaged q = record { detail = omega arith; kept = omega arith }

    ended-fits : (e : Ending) → total_of s r ≤ 1518 → Fits (ended_of (total_of s r) e r)
    ended-fits (Done n) q = record { detail = omega (arith, q); kept = omega arith }
    ended-fits (More n running) q = record { detail = omega (arith, q); kept = omega (arith, q) }
    ended-fits Damaged q = record { detail = omega arith; kept = omega arith }

    continuation-fits : (f : FrameCount) (g : FragmentCount) → Fits (continuation_of f g s r)
    unfolding continuation_of
    continuation-fits f g = go (not r.assembling) (unexpected f g r) (ltb 1518 (total_of s r)) refl
      where
        go : (x y z : Bool) → ltb 1518 (total_of s r) ≡ z
            → Fits (cond x (unchanged (says 22 0) r) (cond y (abandoned (says 23 0) r) (cond z (abandoned (says 24 0) r) (ended_of (total_of s r) (ending_of r.running s) r))))
        go true y z q = unchanged_fits 22 0 (omega arith)
        go false true z q = record { detail = omega arith; kept = omega arith }
        go false false true q = record { detail = omega arith; kept = omega arith }
        go false false false q = ended-fits (ending_of r.running s) (ltb-false _ _ q)

    step_fits : (kind : Kind) → Fits (step_of kind s r)
    step_fits K.Express = express-fits (ending_of all_ones s) (ends all_ones s)
    step_fits (K.Start f) = start_fits f (ending_of all_ones s) (ends all_ones s)
    step_fits (K.Continuation f g) = continuation-fits f g
    step_fits K.Verify = heard-fits 3 (ending_of all_ones s)
    step_fits K.Respond = heard-fits 4 (ending_of all_ones s)

  head_fits : (m : List ℕ) (h : Reading) → Good (length m) h → Fits (by_head h m r)
  head_fits m (known kind place) g = step_fits (drop place m) (omega (arith, g.most, length-drop place m)) kind
  head_fits m (refused number detail) g = unchanged_fits number detail (omega (arith, detail_small g))

  pub received_fits : (m : List ℕ) (room : ℕ) → Fits (received_of m r room)
  unfolding received_of
  received_fits m room =
      chosen Fits (ltb room 1518) (unchanged (says 10 0) r) _ (unchanged_fits 10 0 (omega arith))
      (chosen Fits (not (in_range r)) (unchanged (says 11 0) r) (by_head (head_of m) m r) (unchanged_fits 11 0 (omega arith))
      (head_fits m (head_of m) (head_good m)))

-- the promise of receive, told in words
pub received_words : {m : List ℕ} {r : Record} {b b' receiver : List ℕ} {got : Received} {number detail : ℕ} → Answered m r b got b'
    → number ≡ (told got).said.number → detail ≡ (told got).said.detail → receiver ≡ receiver_words got.after
    → S.Received (S.told (received_of m r (length b)) b') number detail receiver b'
received_words h n d a =
    record {
      answer = n ∙ ap (λ (t : Step). t.said.number) h.step;
      value = d ∙ ap (λ (t : Step). t.said.detail) h.step;
      after = a ∙ ap (λ (t : Step). receiver_words t.after) h.step;
      octets = refl;
    }
