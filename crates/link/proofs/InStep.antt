-- Demand 3, its last sentence: from an unrefused start on, any receiver gives what a fresh one with as long a buffer does. Assumes nothing.
use mathlib.Core.Path.{◌≡◌, refl, ap₂}
use mathlib.Core.Bool.{Bool, true, false, not, cond, ◌&&◌, false≢true}
use mathlib.Core.List.{List, [], ◌∷◌}
use Prim.Native.Nat.{ℕ, ◌+◌, ◌≤◌}
use native.Mathlib.Omega.{arith}
use borrow.Author.Tests.{ltb-false}
use lib.Dec.{eqb, ltb}
use lib.ListN.{length, take, drop, length-drop}
use Rattle.crc.specs.Crc.{all_ones}
use Rattle.endings.specs.Judge.{ending_of}
use Rattle.heads.specs.Head.{Reading, known, refused, head_of}
use Rattle.mframe.specs.declared.Kind.TheVariants as K
use Rattle.counters.specs.declared.Counters.{Counters}
use Rattle.receiver_record.specs.declared.Record.{Record}
use Rattle.receiver_answers.specs.Answers.{Said, says}
use Rattle.receiver_record.specs.Records.{fresh, counting, in_range}
use Rattle.outcomes.specs.Outcomes.{Step, unchanged}
use Rattle.receive.specs.Receive.{by_head, received_of, data_in, buffer_of}
use Rattle.express_body.specs.Body.{body_of}
use Rattle.heads.proofs.Heads.{Refusal, n12, n13, n14, n15, n17, Good, head_good}
use Rattle.endings.proofs.Endings.{ends}
use Rattle.receive_histories.specs.History.{is_start, refusal}
use Rattle.link.specs.Frames.{if_so}
use Rattle.link.specs.Receiver.{Given, receiving, unrefused_start}
use Rattle.link.specs.Demand.{InStep}
use Rattle.link.proofs.Alike.{Alike, alike, Match, unchanged_match, start_match, step-match}

-- the octets behind a header
behind : (m : List ℕ) (place : ℕ) → length m ≤ place + 1522 → length (drop place m) ≤ 1522
behind m place h = omega (arith, length-drop place m)

-- a head that is refused has nothing written
not_written : {n d : ℕ} → Refusal n d → (eqb n 1 ≡ false) × (eqb n 2 ≡ false)
not_written n12 = (refl, refl)
not_written n13 = (refl, refl)
not_written n14 = (refl, refl)
not_written (n15 bits h) = (refl, refl)
not_written n17 = (refl, refl)

-- any octets, given to two receivers that are alike
module _ (m : List ℕ) (r : Record) (y : Counters) (B C : List ℕ) (long : length C ≡ length B) (same : take r.kept C ≡ take r.kept B) where
  head_match : 1518 ≤ length B → (h : Reading) → Good (length m) h → Match (data_in h m) B C (by_head h m r) (by_head h m (counting y r))
  head_match room (known kind place) g = step-match (drop place m) B C long room r y same (behind m place g.most) kind
  head_match room (refused n detail) g = let w = not_written g in unchanged_match [] B C long r y (says n detail) same w.0 w.1

  received_match : Match (data_in (head_of m) m) B C (received_of m r (length B)) (received_of m (counting y r) (length C))
  unfolding received_of in_range
  received_match = rw long (by (ltb (length B) 1518) (not (in_range r)) refl)
    where
      by : (a b : Bool) → ltb (length B) 1518 ≡ a
          → Match (data_in (head_of m) m) B C (cond a (unchanged (says 10 0) r) (cond b (unchanged (says 11 0) r) (by_head (head_of m) m r)))
          (cond a (unchanged (says 10 0) (counting y r)) (cond b (unchanged (says 11 0) (counting y r)) (by_head (head_of m) m (counting y r))))
      by true b e = unchanged_match _ B C long r y (says 10 0) same refl refl
      by false true e = unchanged_match _ B C long r y (says 11 0) same refl refl
      by false false e = head_match (ltb-false _ _ e) (head_of m) (head_good m)

-- where the steps of an mFrame match it gives the same to both callers
one_more : (m : List ℕ) (ms : List (List ℕ)) (r q : Record) (B C : List ℕ)
    → Match (data_in (head_of m) m) B C (received_of m r (length B)) (received_of m q (length C))
    → receiving (received_of m r (length B)).after (buffer_of m r B) ms ≡ receiving (received_of m q (length C)).after (buffer_of m q C) ms
    → receiving r B (m ∷ ms) ≡ receiving q C (m ∷ ms)
unfolding receiving buffer_of
one_more m ms r q B C k e =
    ap₂ (λ (g : Given) (l : List Given). g ∷ l)
    (ap₂ (λ (s : Said) (l : List (List ℕ)). record { said = s; express = if_so (eqb s.number 0) (body_of m); preemptable = l }) k.said_same k.body) e

receiving_alike : (ms : List (List ℕ)) {r q : Record} {B C : List ℕ} → Alike r B q C → receiving r B ms ≡ receiving q C ms
unfolding receiving buffer_of
receiving_alike [] a = refl
receiving_alike (m ∷ ms) (alike {r = r} {y = y} {B = B} {C = C} long same) =
    let k = received_match m r y B C long same in one_more m ms r (counting y r) B C k (receiving_alike ms k.after)

-- the second of two tests that hold
second : (a b : Bool) → (a && b) ≡ true → b ≡ true
second true b e = e
second false b e = absurd (false≢true e)

-- an unrefused start, given to any receiver and to a fresh one
module _ (r : Record) (B m C : List ℕ) (long : length C ≡ length B) where
  abbrev answered : Bool → Bool → Step
  answered a b = cond a (unchanged (says 10 0) r) (cond b (unchanged (says 11 0) r) (by_head (head_of m) m r))

  started : 1518 ≤ length B → (h : Reading) → Good (length m) h → is_start h ≡ true → Match (data_in h m) B C (by_head h m r) (by_head h m fresh)
  started room (known (K.Start f) place) g u =
      start_match (drop place m) B C long room (behind m place g.most) f r fresh (ending_of all_ones (drop place m)) (ends all_ones (drop place m))
  started room (known K.Express place) g u = absurd (false≢true u)
  started room (known (K.Continuation f k) place) g u = absurd (false≢true u)
  started room (known K.Verify place) g u = absurd (false≢true u)
  started room (known K.Respond place) g u = absurd (false≢true u)
  started room (refused n detail) g u = absurd (false≢true u)

  first_match : unrefused_start r B m ≡ true → Match (data_in (head_of m) m) B C (received_of m r (length B)) (received_of m fresh (length C))
  unfolding unrefused_start received_of in_range
  first_match u = by (ltb (length B) 1518) (not (in_range r)) refl u
    where
      by : (a b : Bool) → ltb (length B) 1518 ≡ a → (not (refusal (answered a b).said.number) && is_start (head_of m)) ≡ true
          → Match (data_in (head_of m) m) B C (answered a b) (received_of m fresh (length C))
      by true b e u = absurd (false≢true u)
      by false true e u = absurd (false≢true u)
      by false false e u =
          rw (long, e) (started (ltb-false _ _ e) (head_of m) (head_good m) (second (not (refusal (answered false false).said.number)) (is_start (head_of m)) u))

pub steps_in : (r : Record) (buffer : List ℕ) → InStep r buffer
unfolding buffer_of
steps_in r buffer start rest other u long =
    let k = first_match r buffer start other long u in one_more start rest r fresh buffer other k (receiving_alike rest k.after)
