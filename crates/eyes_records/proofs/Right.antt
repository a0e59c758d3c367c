-- Answers 2, 3 and 4 are given to an mFrame whose last four octets are document 01's mCRC over its data, of a continuation over the running CRC and its
-- data; with 2 the receiver keeps that register.
-- Assumes nothing.
use mathlib.Core.Path.{◌≡◌, refl, sym, ap, ◌∙◌}
use mathlib.Core.Bool.{Bool, true, false, not, cond}
use mathlib.Core.List.{List}
use Prim.Native.Nat.{ℕ, ◌+◌, ◌-◌, ◌≤◌}
use native.Mathlib.Omega.{arith}
use borrow.Author.Tests.{ne_eqb}
use lib.Dec.{ltb, eqb}
use lib.ListN.{length, drop, length-drop}
use lib.Seq.{drop-drop}
use Rattle.rules.proofs.Tests.{failed}
use Rattle.codes.specs.declared.FrameCount.{FrameCount}
use Rattle.codes.specs.declared.FragmentCount.{FragmentCount}
use Rattle.crc.specs.Crc.{all_ones, register_over, mcrc_of}
use Rattle.endings.specs.Judge.{data_of, last_four, ending_of}
use Rattle.endings.specs.declared.Ending.{Ending}
use Rattle.endings.specs.declared.Ending.TheVariants.{Done, More, Damaged}
use Rattle.endings.proofs.Endings.{more_only}
use Rattle.heads.specs.Head.{Reading, known, refused, head_of}
use Rattle.heads.proofs.Heads.{refused_from_ten, Good}
use Rattle.mframe.specs.declared.Kind.{Kind}
use Rattle.mframe.specs.declared.Kind.TheVariants as K
use Rattle.receiver_record.specs.declared.Record.{Record}
use Rattle.receiver_answers.specs.Answers.{says}
use Rattle.outcomes.specs.Outcomes.{Step, unchanged, abandoned}
use Rattle.starting.specs.Starting.{start_of}
use Rattle.continuing.specs.Continuing.{ended_of, unexpected, total_of, continuation_of}
use Rattle.assembly.specs.Steps.{express_of, heard_of, step_of}
use Rattle.receive.specs.Receive.{by_head, received_of}
use Rattle.receive.proofs.Cases.{by_cases}
use Rattle.eyes_records.specs.Shown.{right_mcrc, register_before, register_behind, is_right}

-- a step that keeps a fragment, whose frame then has the register q
pub record Keeps (q : ℕ) (p : Step) : Type 0 where
  pub assembling : p.after.assembling ≡ true
  pub kept : p.after.kept ≡ p.said.detail
  pub running : p.after.running ≡ q

-- a step by data and check octets s, with the register q over the frame so far: the last four are its mCRC, and 2 keeps it
record Ended (s : List ℕ) (q : ℕ) (p : Step) : Type 0 where
  pub mcrc : last_four s ≡ mcrc_of q
  pub keeps : eqb p.said.number 2 ≡ true → Keeps q p

module _ (s : List ℕ) (r : Record) where
  -- what an answer of 2, 3 or 4 says, with the register q before s
  abbrev Says : ℕ → Step → Type 0
  Says q p = right_mcrc p.said.number ≡ true → Ended s (register_over q (data_of s)) p

  more : (q n running : ℕ) → ending_of q s ≡ More n running → (last_four s ≡ mcrc_of (register_over q (data_of s))) × (running ≡ register_over q (data_of s))
  more q n running e = let w = more_only _ _ n running _ e in (w.0, w.1.1)

  express_says : (e : Ending) → Says all_ones (express_of e r)
  express_says (Done n) w = failed w
  express_says (More n running) w = failed w
  express_says Damaged w = failed w

  start_says : (f : FrameCount) (e : Ending) → ending_of all_ones s ≡ e → Says all_ones (start_of f e r)
  start_says f (Done n) z w = failed w
  start_says f (More n running) z w =
      let k = more all_ones n running z in record { mcrc = k.0; keeps = λ t. record { assembling = refl; kept = refl; running = k.1 } }
  start_says f Damaged z w = failed w

  heard_says : (k : ℕ) → eqb k 2 ≡ false → (e : Ending) → ending_of all_ones s ≡ e → Says all_ones (heard_of (says k 0) e r)
  heard_says k h (Done n) z w = failed w
  heard_says k h (More n running) z w = record { mcrc = (more all_ones n running z).0; keeps = λ t. failed (sym h ∙ t) }
  heard_says k h Damaged z w = failed w

  ended_says : (total : ℕ) (e : Ending) → ending_of r.running s ≡ e → Says r.running (ended_of total e r)
  ended_says total (Done n) z w = failed w
  ended_says total (More n running) z w =
      let k = more r.running n running z in record { mcrc = k.0; keeps = λ t. record { assembling = refl; kept = refl; running = k.1 } }
  ended_says total Damaged z w = failed w

  continuation_says : (f : FrameCount) (g : FragmentCount) → Says r.running (continuation_of f g s r)
  unfolding continuation_of
  continuation_says f g = go (not r.assembling) (unexpected f g r) (ltb 1518 (total_of s r))
    where
      go : (x y z : Bool) → Says r.running (cond x (unchanged (says 22 0) r)
          (cond y (abandoned (says 23 0) r) (cond z (abandoned (says 24 0) r) (ended_of (total_of s r) (ending_of r.running s) r))))
      go true y z w = failed w
      go false true z w = failed w
      go false false true w = failed w
      go false false false w = ended_says (total_of s r) (ending_of r.running s) refl w

  step_says : (kind : Kind) → Says (register_before kind r) (step_of kind s r)
  step_says K.Express = express_says (ending_of all_ones s)
  step_says (K.Start f) = start_says f (ending_of all_ones s) refl
  step_says (K.Continuation f g) = continuation_says f g
  step_says K.Verify = heard_says 3 refl (ending_of all_ones s) refl
  step_says K.Respond = heard_says 4 refl (ending_of all_ones s) refl

-- the last four octets are last from any place before them
last_from : (m : List ℕ) (place : ℕ) → place + 4 ≤ length m → last_four (drop place m) ≡ last_four m
last_from m place h =
    drop-drop (length (drop place m) - 4) place m
    ∙ ap (λ (k : ℕ). drop k m) (let z : place + (length (drop place m) - 4) ≡ length m - 4 = omega (arith, length-drop place m) in z)

-- an mFrame that is answered so: it has its check octets, they are the mCRC of the register behind it, and 2 keeps that
pub record Right (m : List ℕ) (h : Reading) (r : Record) (p : Step) : Type 0 where
  pub enough : 64 ≤ length m
  pub mcrc : last_four m ≡ mcrc_of (register_behind h m r)
  pub keeps : eqb p.said.number 2 ≡ true → Keeps (register_behind h m r) p

-- a refusal, as any number from 10 on, is not answered so
pub from_ten_other : (n : ℕ) → 10 ≤ n → right_mcrc n ≡ false
from_ten_other n h = simp (ne_eqb n 2 (λ e. omega arith), ne_eqb n 3 (λ e. omega arith), ne_eqb n 4 (λ e. omega arith))

module _ (m : List ℕ) (r : Record) where
  by_head_lem : (h : Reading) → Good (length m) h → right_mcrc (by_head h m r).said.number ≡ true → Right m h r (by_head h m r)
  by_head_lem (known kind place) g w =
      let k = step_says (drop place m) r kind w in
      record { enough = omega (arith, g.least); mcrc = sym (last_from m place (omega (arith, g.least))) ∙ k.mcrc; keeps = k.keeps }
  by_head_lem (refused n d) g w = failed (sym (from_ten_other n (refused_from_ten g)) ∙ w)

  pub right : (room : ℕ) → is_right m r room ≡ true → Right m (head_of m) r (received_of m r room)
  right room =
      by_cases (λ (p : Step). right_mcrc p.said.number ≡ true → Right m (head_of m) r p) m r room (λ w. failed w) (λ w. failed w) (λ l g. by_head_lem (head_of m) g)
