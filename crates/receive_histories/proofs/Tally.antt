-- One call in the sums: the starts against the frames delivered and the assemblies lost, and each counter against its events.
-- Assumes nothing.
use mathlib.Core.Path.{◌≡◌, refl}
use mathlib.Core.Bool.{Bool, true, false, not, cond}
use mathlib.Core.List.{List}
use Prim.Native.Nat.{ℕ, ◌+◌, ◌%◌, ◌^◌}
use native.Mathlib.Omega.{arith}
use lib.Dec.{ltb}
use lib.ListN.{length, drop}
use Rattle.codes.specs.declared.FrameCount.{FrameCount}
use Rattle.codes.specs.declared.FragmentCount.{FragmentCount}
use Rattle.crc.specs.Crc.{all_ones}
use Rattle.endings.specs.Judge.{ending_of}
use Rattle.endings.specs.declared.Ending.{Ending}
use Rattle.endings.specs.declared.Ending.TheVariants.{Done, More, Damaged}
use Rattle.heads.specs.Head.{Reading, known, refused, head_of}
use Rattle.mframe.specs.declared.Kind.{Kind}
use Rattle.mframe.specs.declared.Kind.TheVariants as K
use Rattle.counters.specs.declared.Counters.{Counters}
use Rattle.receiver_record.specs.declared.Record.{Record}
use Rattle.receiver_answers.specs.Answers.{Said, says}
use Rattle.counters.specs.Counters.{erred, strayed, joined, completed}
use Rattle.receiver_record.specs.Records.{opened, in_range}
use Rattle.outcomes.specs.Outcomes.{Step, unchanged, abandoned}
use Rattle.continuing.specs.Continuing.{ended_of, unexpected, total_of, continuation_of}
use Rattle.starting.specs.Starting.{one, start_of}
use Rattle.assembly.specs.Steps.{express_of, heard_of, step_of}
use Rattle.receive.specs.Receive.{by_head, received_of}
use Rattle.heads.proofs.Heads.{Refusal, n12, n13, n14, n15, n17, Good, head_good}
use Rattle.receive_histories.specs.History.{Call, call_of, started, delivered, abandoning, damaged_start, misdelimited, completing, continuing}
use Rattle.receive_histories.proofs.Right.{Right, idle, going, right_ranges}

-- four numbers of events, in the counters' order
abbrev pub four : ℕ → ℕ → ℕ → ℕ → Counters
four e d a f = record { errors = e; delimiters = d; assembled = a; fragments = f }

abbrev pub plus : Counters → Counters → Counters
plus x y = four (x.errors + y.errors) (x.delimiters + y.delimiters) (x.assembled + y.assembled) (x.fragments + y.fragments)

-- counters k that stand for the numbers n
pub record Modulo (n k : Counters) : Type 0 where
  pub errors : k.errors ≡ n.errors % 2 ^ 32
  pub delimiters : k.delimiters ≡ n.delimiters % 2 ^ 32
  pub assembled : k.assembled ≡ n.assembled % 2 ^ 32
  pub fragments : k.fragments ≡ n.fragments % 2 ^ 32

-- counters moved on by events
abbrev pub Moved : Counters → Counters → Counters → Type 0
Moved events k k' = (n : Counters) → Modulo n k → Modulo (plus n events) k'

module _ (k : Counters) where
  moved_none : Moved (four 0 0 0 0) k k
  moved_none n w = record { errors = omega arith; delimiters = omega arith; assembled = omega arith; fragments = omega arith }

  moved_erred : (i : ℕ) → Moved (four i 0 0 0) k (erred i k)
  moved_erred i n w = record { errors = omega arith; delimiters = omega arith; assembled = omega arith; fragments = omega arith }

  moved_strayed : Moved (four 0 1 0 0) k (strayed k)
  moved_strayed n w = record { errors = omega arith; delimiters = omega arith; assembled = omega arith; fragments = omega arith }

  moved_joined : Moved (four 0 0 0 1) k (joined k)
  moved_joined n w = record { errors = omega arith; delimiters = omega arith; assembled = omega arith; fragments = omega arith }

  moved_completed : Moved (four 0 0 1 1) k (completed k)
  moved_completed n w = record { errors = omega arith; delimiters = omega arith; assembled = omega arith; fragments = omega arith }

-- the events of a call
abbrev pub events : Call → Counters
events c = four (one (abandoning c) + one (damaged_start c)) (one (misdelimited c)) (one (completing c)) (one (continuing c))

-- one call: a start given or an assembly open before is a frame delivered, an assembly error or an assembly open after
pub record Tally (h : Reading) (r : Record) (p : Step) : Type 0 where
  pub balance : one (started (call_of h r p)) + one r.assembling
      ≡ one (delivered (call_of h r p)) + (events (call_of h r p)).errors + one p.after.assembling
  pub moved : Moved (events (call_of h r p)) r.counters p.after.counters

heard_tally : (h : Reading) (heard : Said) (e : Ending) (r : Record) → Tally h r (unchanged heard r) → Tally h r (unchanged (says 21 0) r)
    → Tally h r (heard_of heard e r)
heard_tally h heard (Done n) r q w = w
heard_tally h heard (More n c) r q w = q
heard_tally h heard Damaged r q w = w

module _ (place : ℕ) where
  express_tally : (e : Ending) (r : Record) → Tally (known K.Express place) r (express_of e r)
  express_tally (Done n) r = record { balance = omega arith; moved = moved_none r.counters }
  express_tally (More n c) r = record { balance = omega arith; moved = moved_none r.counters }
  express_tally Damaged r = record { balance = omega arith; moved = moved_none r.counters }

  start_tally : (f : FrameCount) (e : Ending) {r : Record} {b : List ℕ} → Right r b → Tally (known (K.Start f) place) r (start_of f e r)
  start_tally f (Done n) (idle {k}) = record { balance = refl; moved = moved_erred k 0 }
  start_tally f (More n c) (idle {k}) = record { balance = refl; moved = moved_erred k 0 }
  start_tally f Damaged (idle {k}) = record { balance = refl; moved = moved_erred k 1 }
  start_tally f (Done n) (going {k = k} w) = record { balance = refl; moved = moved_erred k 1 }
  start_tally f (More n c) (going {k = k} w) = record { balance = refl; moved = moved_erred k 1 }
  start_tally f Damaged (going {k = k} w) = record { balance = refl; moved = moved_erred k 2 }

  module _ (f f' : FrameCount) (g g' : FragmentCount) (n c : ℕ) (k : Counters) where
    abbrev now : Record
    now = opened f' g' n c k

    abbrev Told : Step → Type 0
    Told = Tally (known (K.Continuation f g) place) now

    tests-tally : (x y : Bool) (total : ℕ) (e : Ending) → Told (cond x (abandoned (says 23 0) now) (cond y (abandoned (says 24 0) now) (ended_of total e now)))
    tests-tally true y total e = record { balance = refl; moved = moved_erred k 1 }
    tests-tally false true total e = record { balance = refl; moved = moved_erred k 1 }
    tests-tally false false total (Done i) = record { balance = refl; moved = moved_completed k }
    tests-tally false false total (More i x) = record { balance = refl; moved = moved_joined k }
    tests-tally false false total Damaged = record { balance = refl; moved = moved_erred k 1 }

  continuation_tally : (f : FrameCount) (g : FragmentCount) (s : List ℕ) {r : Record} {b : List ℕ} → Right r b
      → Tally (known (K.Continuation f g) place) r (continuation_of f g s r)
  unfolding continuation_of
  continuation_tally f g s (idle {k}) = record { balance = refl; moved = moved_strayed k }
  continuation_tally f g s (going {f = f'} {g = g'} {n = n} {c = c} {k = k} w) =
      let now : Record = opened f' g' n c k in
      tests-tally f f' g g' n c k (unexpected f g now) (ltb 1518 (total_of s now)) (total_of s now) (ending_of c s)

  kind_tally : (kind : Kind) (s : List ℕ) {r : Record} {b : List ℕ} → Right r b → Tally (known kind place) r (step_of kind s r)
  kind_tally K.Express s {r} w = express_tally (ending_of all_ones s) r
  kind_tally (K.Start f) s w = start_tally f (ending_of all_ones s) w
  kind_tally (K.Continuation f g) s w = continuation_tally f g s w
  kind_tally K.Verify s {r} w =
      heard_tally (known K.Verify place) (says 3 0) (ending_of all_ones s) r (record { balance = omega arith; moved = moved_none r.counters })
      (record { balance = omega arith; moved = moved_none r.counters })
  kind_tally K.Respond s {r} w =
      heard_tally (known K.Respond place) (says 4 0) (ending_of all_ones s) r (record { balance = omega arith; moved = moved_none r.counters })
      (record { balance = omega arith; moved = moved_none r.counters })

-- a head that is refused
refused_tally : {n d : ℕ} (r : Record) → Refusal n d → Tally (refused n d) r (unchanged (says n d) r)
refused_tally r n12 = record { balance = omega arith; moved = moved_none r.counters }
refused_tally r n13 = record { balance = omega arith; moved = moved_none r.counters }
refused_tally r n14 = record { balance = omega arith; moved = moved_none r.counters }
refused_tally r (n15 bits h) = record { balance = omega arith; moved = moved_strayed r.counters }
refused_tally r n17 = record { balance = omega arith; moved = moved_strayed r.counters }

head_tally : (m : List ℕ) (h : Reading) {r : Record} {b : List ℕ} → Good (length m) h → Right r b → Tally h r (by_head h m r)
head_tally m (known kind place) g w = kind_tally place kind (drop place m) w
head_tally m (refused n d) {r} g w = refused_tally r g

pub call_tally : (m : List ℕ) {r : Record} {b : List ℕ} → Right r b → Tally (head_of m) r (received_of m r (length b))
unfolding received_of
call_tally m {r} {b} w = go (ltb (length b) 1518) (in_range r) (right_ranges w)
  where
    go : (t u : Bool) → u ≡ true → Tally (head_of m) r (cond t (unchanged (says 10 0) r) (cond (not u) (unchanged (says 11 0) r) (by_head (head_of m) m r)))
    go true u q = record { balance = omega arith; moved = moved_none r.counters }
    go false false q = record { balance = omega arith; moved = moved_none r.counters }
    go false true q = head_tally m (head_of m) (head_good m) w
