-- Two receivers with the same assembly answer any octets alike, whatever their counters and the rest of their buffers. Assumes nothing.
use mathlib.Core.Path.{◌≡◌, refl, sym, ap, ◌∙◌}
use mathlib.Core.Bool.{Bool, true, false, not, cond}
use mathlib.Core.List.{List, [], ◌∷◌, ◌++◌}
use Prim.Native.Nat.{ℕ, ◌+◌, ◌-◌, ◌≤◌}
use native.Mathlib.Omega.{arith}
use borrow.Author.Tests.{ltb-false}
use lib.Dec.{eqb, ltb}
use lib.ListN.{length, take}
use Rattle.octets.specs.Laid.{laid}
use Rattle.codes.specs.Codes.{fragment, next_fragment}
use Rattle.codes.specs.declared.FrameCount.{FrameCount}
use Rattle.codes.specs.declared.FragmentCount.{FragmentCount}
use Rattle.crc.specs.Crc.{all_ones}
use Rattle.endings.specs.Judge.{data_of, ending_of}
use Rattle.endings.specs.declared.Ending.{Ending}
use Rattle.endings.specs.declared.Ending.TheVariants.{Done, More, Damaged}
use Rattle.mframe.specs.declared.Kind.{Kind}
use Rattle.mframe.specs.declared.Kind.TheVariants as K
use Rattle.counters.specs.declared.Counters.{Counters}
use Rattle.receiver_record.specs.declared.Record.{Record}
use Rattle.receiver_answers.specs.Answers.{Said, says}
use Rattle.counters.specs.Counters.{strayed}
use Rattle.receiver_record.specs.Records.{shut, opened, counting}
use Rattle.outcomes.specs.Outcomes.{Step, delimiter_error, unchanged, abandoned}
use Rattle.continuing.specs.Continuing.{ended_of, unexpected, total_of, continuation_of}
use Rattle.starting.specs.Starting.{start_of}
use Rattle.assembly.specs.Steps.{express_of, heard_of, step_of}
use Rattle.receive.specs.Receive.{left_of}
use Rattle.endings.proofs.Endings.{data_length, Ends, ends}
use Rattle.link.specs.Frames.{if_so}
use Rattle.link.proofs.Buffer.{keeps, as_long}

-- the same assembly, the same octets kept, and buffers of one length
pub data Alike : Record → List ℕ → Record → List ℕ → Type 0 where
  alike : {r : Record} {y : Counters} {B C : List ℕ} → length C ≡ length B → take r.kept C ≡ take r.kept B → Alike r B (counting y r) C

-- an mFrame with data d, given to each of two receivers: the same answer, the same body, and alike after it
pub record Match (d B C : List ℕ) (t u : Step) : Type 0 where
  pub said_same : t.said ≡ u.said
  pub after : Alike t.after (left_of t.said d B) u.after (left_of u.said d C)
  pub body : if_so (eqb t.said.number 1) (take t.said.detail (left_of t.said d B)) ≡ if_so (eqb u.said.number 1) (take u.said.detail (left_of u.said d C))

module _ (d B C : List ℕ) (long : length C ≡ length B) where
  -- an answer that leaves the assembly as it is
  pub unchanged_match : (r : Record) (y : Counters) (s : Said) → take r.kept C ≡ take r.kept B → eqb s.number 1 ≡ false → eqb s.number 2 ≡ false
      → Match d B C (unchanged s r) (unchanged s (counting y r))
  unchanged_match r y s e p q = record { said_same = refl; after = rw (p, q) (by (delimiter_error s.number)); body = rw p }
    where
      by : (b : Bool) → Alike (cond b (counting (strayed r.counters) r) r) B (cond b (counting (strayed y) (counting y r)) (counting y r)) C
      by true = alike {y = strayed y} long e
      by false = alike {y = y} long e

  -- one that abandons it
  dropped_match : (x y : Counters) (s : Said) → eqb s.number 1 ≡ false → eqb s.number 2 ≡ false
      → Match d B C (record { said = s; after = shut x }) (record { said = s; after = shut y })
  dropped_match x y s p q = record { said_same = refl; after = rw (p, q) (alike {y = y} long refl); body = rw p }

  -- one that has the data written behind k octets which are the same
  module _ (k n : ℕ) (e : n ≡ k + length d) (fits : n ≤ length B) (same : take k C ≡ take k B) where
    written : take n (laid C (n - length d) d) ≡ take n (laid B (n - length d) d)
    written =
        keeps C d k n e (omega arith) ∙ ap (λ (l : List ℕ). l ++ d) same ∙ sym (keeps B d k n e fits)

    written-long : length (laid C (n - length d) d) ≡ length (laid B (n - length d) d)
    written-long = as_long C d k n e (omega arith) ∙ long ∙ sym (as_long B d k n e fits)

    delivered-match : (x y : Counters) → Match d B C (record { said = says 1 n; after = shut x }) (record { said = says 1 n; after = shut y })
    delivered-match x y = record { said_same = refl; after = alike {y = y} written-long refl; body = ap (λ (l : List ℕ). l ∷ []) (sym written) }

    kept-match : (f : FrameCount) (g : FragmentCount) (run : ℕ) (x y : Counters)
        → Match d B C (record { said = says 2 n; after = opened f g n run x }) (record { said = says 2 n; after = opened f g n run y })
    kept-match f g run x y = record { said_same = refl; after = alike {y = y} written-long written; body = refl }

-- the steps, of an mFrame's octets s behind its header
module _ (s B C : List ℕ) (long : length C ≡ length B) (room : 1518 ≤ length B) where
  -- a start, whatever was in assembly
  pub start_match : length s ≤ 1522 → (f : FrameCount) (r q : Record) (e : Ending) → Ends all_ones s e → Match (data_of s) B C (start_of f e r) (start_of f e q)
  start_match h f r q (Done n) t = delivered-match (data_of s) B C long 0 n (omega (arith, data_length s)) (omega arith) refl _ _
  start_match h f r q (More n run) t = kept-match (data_of s) B C long 0 n (omega (arith, data_length s, t.0)) (omega (arith, t.0)) refl f (fragment 0) run _ _
  start_match h f r q Damaged t = dropped_match (data_of s) B C long _ _ (says 25 0) refl refl

  module _ (r : Record) (y : Counters) (same : take r.kept C ≡ take r.kept B) where
    abbrev Alikes : (Record → Step) → Type 0
    Alikes step = Match (data_of s) B C (step r) (step (counting y r))

    express-match : (e : Ending) → Alikes (express_of e)
    express-match (Done n) = unchanged_match (data_of s) B C long r y (says 0 n) same refl refl
    express-match (More n run) = unchanged_match (data_of s) B C long r y (says 20 0) same refl refl
    express-match Damaged = unchanged_match (data_of s) B C long r y (says 20 0) same refl refl

    heard-match : (n : ℕ) → eqb n 1 ≡ false → eqb n 2 ≡ false → (e : Ending) → Alikes (heard_of (says n 0) e)
    heard-match n p q (Done k) = unchanged_match (data_of s) B C long r y (says 21 0) same refl refl
    heard-match n p q (More k run) = unchanged_match (data_of s) B C long r y (says n 0) same p q
    heard-match n p q Damaged = unchanged_match (data_of s) B C long r y (says 21 0) same refl refl

    ended-match : total_of s r ≤ 1518 → (e : Ending) → Alikes (ended_of (total_of s r) e)
    ended-match h (Done n) = delivered-match (data_of s) B C long r.kept (total_of s r) (omega (arith, data_length s)) (omega arith) same _ _
    ended-match h (More n run) =
        kept-match (data_of s) B C long r.kept (total_of s r) (omega (arith, data_length s)) (omega arith) same r.frame (next_fragment r.fragment) run _ _
    ended-match h Damaged = dropped_match (data_of s) B C long _ _ (says 25 0) refl refl

    continuation-match : (f : FrameCount) (g : FragmentCount) → Alikes (continuation_of f g s)
    unfolding continuation_of
    continuation-match f g = by (not r.assembling) (unexpected f g r) (ltb 1518 (total_of s r)) refl
      where
        by : (a b c : Bool) → ltb 1518 (total_of s r) ≡ c → Alikes (λ q. cond a (unchanged (says 22 0) q)
            (cond b (abandoned (says 23 0) q) (cond c (abandoned (says 24 0) q) (ended_of (total_of s r) (ending_of r.running s) q))))
        by true b c e = unchanged_match (data_of s) B C long r y (says 22 0) same refl refl
        by false true c e = dropped_match (data_of s) B C long _ _ (says 23 0) refl refl
        by false false true e = dropped_match (data_of s) B C long _ _ (says 24 0) refl refl
        by false false false e = ended-match (ltb-false _ _ e) (ending_of r.running s)

    pub step-match : length s ≤ 1522 → (kind : Kind) → Alikes (step_of kind s)
    step-match h K.Express = express-match (ending_of all_ones s)
    step-match h (K.Start f) = start_match h f r (counting y r) (ending_of all_ones s) (ends all_ones s)
    step-match h (K.Continuation f g) = continuation-match f g
    step-match h K.Verify = heard-match 3 refl refl (ending_of all_ones s)
    step-match h K.Respond = heard-match 4 refl refl (ending_of all_ones s)
