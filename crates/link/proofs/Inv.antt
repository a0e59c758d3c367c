-- What holds between the two ends at every moment, and that a preemptable mFrame which is lost keeps it. Assumes nothing.
use mathlib.Core.Path.{◌≡◌, refl}
use mathlib.Core.Bool.{Bool, true, false}
use mathlib.Core.List.{List}
use Prim.Native.Nat.{ℕ, suc, ◌+◌, ◌%◌, ◌≤◌, ◌<◌}
use native.Mathlib.Omega.{arith}
use borrow.Author.Tests.{le-leb}
use lib.ListN.{length, take}
use Rattle.crc.specs.Crc.{all_ones, register_over}
use Rattle.codes.specs.Codes.{frame, fragment}
use Rattle.counters.specs.declared.Counters.{Counters}
use Rattle.receiver_record.specs.declared.Record.{Record}
use Rattle.receiver_record.specs.Records.{shut, opened, in_range}
use Rattle.link.proofs.Counts.{further}
use Rattle.link.proofs.Flow.{Sender, idle, busy, onward}

-- the record of an assembly is in range
pub record Open (k j n : ℕ) : Type 0 where
  pub k_low : k < 4
  pub j_low : j < 4
  pub least : 60 ≤ n
  pub most : n ≤ 1518

-- The sender; whether no mFrame of its frame in progress was lost; the receiver's record and buffer; and how many preemptable mFrames were lost since
-- the last that arrived.
pub data Inv : Sender → Bool → Record → List ℕ → ℕ → Type 0 where
  -- nothing in assembly, and no frame in progress all of whose mFrames arrived
  closed_idle : {k c : ℕ} {x : Counters} {B : List ℕ} → Inv (idle k) true (shut x) B c
  closed_torn : {k j c : ℕ} {a B : List ℕ} {x : Counters} → Inv (busy k j a) false (shut x) B c
  -- the frame in progress is in assembly, and none of it was lost
  in_step : {k j c : ℕ} {a B : List ℕ} {x : Counters} → Open k j (length a) → take (length a) B ≡ a → c ≡ 0
      → Inv (busy k j a) true (opened (frame k) (fragment j) (length a) (register_over all_ones a) x) B c
  -- the receiver waits for an mFrame of the frame in progress that was lost c mFrames ago
  late_piece : {k j jr n g c : ℕ} {a B : List ℕ} {x : Counters} → Open k jr n → j ≡ (jr + c) % 4 → 1 ≤ c
      → Inv (busy k j a) false (opened (frame k) (fragment jr) n g x) B c
  -- the receiver waits for the end of a frame that was d frames ago
  late_idle : {k kr jr n g c : ℕ} {B : List ℕ} {x : Counters} (d : ℕ) → Open kr jr n → k ≡ (kr + d) % 4 → 1 ≤ d → d ≤ c
      → Inv (idle k) true (opened (frame kr) (fragment jr) n g x) B c
  late_frame : {k j kr jr n g c : ℕ} {a B : List ℕ} {x : Counters} (d : ℕ) → Open kr jr n → k ≡ (kr + d) % 4 → 1 ≤ d → d ≤ c
      → Inv (busy k j a) false (opened (frame kr) (fragment jr) n g x) B c

-- the receiver's record is in range
open_range : {k j n : ℕ} (g : ℕ) (x : Counters) → Open k j n → in_range (opened (frame k) (fragment j) n g x) ≡ true
unfolding in_range
open_range {k} {j} {n} g x o = simp (le-leb k 3 (omega (arith, o.k_low)), le-leb j 3 (omega (arith, o.j_low)), le-leb 60 n o.least, le-leb n 1518 o.most)

shut_range : (x : Counters) → in_range (shut x) ≡ true
unfolding in_range
shut_range x = refl

pub ranged : {s : Sender} {w : Bool} {r : Record} {B : List ℕ} {c : ℕ} → Inv s w r B c → in_range r ≡ true
ranged closed_idle = shut_range _
ranged closed_torn = shut_range _
ranged (in_step o t z) = open_range _ _ o
ranged (late_piece o e l) = open_range _ _ o
ranged (late_idle d o e l u) = open_range _ _ o
ranged (late_frame d o e l u) = open_range _ _ o

-- a preemptable mFrame is lost
pub inv_lost : {s : Sender} {w : Bool} {r : Record} {B : List ℕ} {c : ℕ} → Inv s w r B c → (d : List ℕ) (e : Bool) → Inv (onward s d e) e r B (suc c)
inv_lost closed_idle d true = closed_idle
inv_lost closed_idle d false = closed_torn
inv_lost closed_torn d true = closed_idle
inv_lost closed_torn d false = closed_torn
inv_lost (in_step {c = c} o t z) d true = late_idle {c = suc c} 1 o refl (omega arith) (omega arith)
inv_lost (in_step {j = j} {c = c} o t z) d false = late_piece {c = suc c} o (further j j c (omega (arith, o.j_low))) (omega arith)
inv_lost (late_piece {c = c} o e l) d true = late_idle {c = suc c} 1 o refl (omega arith) (omega arith)
inv_lost (late_piece {j = j} {jr = jr} {c = c} o e l) d false = late_piece {c = suc c} o (further jr j c e) (omega arith)
inv_lost (late_idle {k = k} {kr = kr} {c = c} n o e l u) d true = late_idle {c = suc c} (suc n) o (further kr k n e) (omega arith) (omega arith)
inv_lost (late_idle {c = c} n o e l u) d false = late_frame {c = suc c} n o e l (omega arith)
inv_lost (late_frame {k = k} {kr = kr} {c = c} n o e l u) d true = late_idle {c = suc c} (suc n) o (further kr k n e) (omega arith) (omega arith)
inv_lost (late_frame {c = c} n o e l u) d false = late_frame {c = suc c} n o e l (omega arith)
