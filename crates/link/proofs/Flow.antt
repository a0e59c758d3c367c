-- A sender without its record: what it has sent of a frame, and what its mFrames then are. Assumes nothing.
use mathlib.Core.Path.{◌≡◌}
use mathlib.Core.Bool.{Bool, true, false}
use mathlib.Core.List.{List, [], ◌∷◌, ◌++◌}
use Prim.Native.Nat.{ℕ, ◌+◌, ◌%◌, ◌≤◌}
use lib.ListN.{length}
use Rattle.crc.specs.Crc.{all_ones, register_over, fcs_of, mcrc_of}
use Rattle.codes.specs.Codes.{frame, fragment}
use Rattle.mframe.specs.Octets.{mframe_of}
use Rattle.single.specs.Single.{zeros}
use Rattle.mframe.specs.declared.Kind.{Kind}
use Rattle.mframe.specs.declared.Kind.TheVariants.{Express, Start, Continuation, Verify, Respond}
use Rattle.mframe.proofs.Laws.{Counted}
use Rattle.send.specs.Preemptable.{check_of}
use Rattle.link.specs.Sender.{MFrame, express, part, order}

-- no frame in progress, and the next frame count; or one, with its frame count, the next fragment count and the octets sent
pub data Sender : Type 0 where
  idle : (k : ℕ) → Sender
  busy : (k j : ℕ) (octets : List ℕ) → Sender

abbrev pub sofar : Sender → List ℕ
sofar (idle k) = []
sofar (busy k j a) = a

abbrev pub kind_from : Sender → Kind
kind_from (idle k) = Start (frame k)
kind_from (busy k j a) = Continuation (frame k) (fragment j)

-- the sender after a piece, with which the frame is done or not
abbrev pub onward : Sender → List ℕ → Bool → Sender
onward (idle k) d true = idle ((k + 1) % 4)
onward (idle k) d false = busy k 0 d
onward (busy k j a) d true = idle ((k + 1) % 4)
onward (busy k j a) d false = busy k ((j + 1) % 4) (a ++ d)

-- the octets m of a preemptable mFrame that carries a piece of its frame
pub record Emits (s : Sender) (piece body : List ℕ) (done : Bool) (m : List ℕ) : Type 0 where
  pub is : m ≡ mframe_of (kind_from s) piece (check_of (register_over all_ones (sofar s ++ piece)) done)
  pub counted : Counted (kind_from s)
  pub low : 60 ≤ length piece
  pub high : length (sofar s ++ piece) ≤ 1518
  pub whole : done ≡ true → sofar s ++ piece ≡ body

-- of an express one
pub record Whole (body m : List ℕ) : Type 0 where
  pub is : m ≡ mframe_of Express body (fcs_of (register_over all_ones body))
  pub low : 60 ≤ length body
  pub high : length body ≤ 1518

-- of V or R
pub data Order : List ℕ → Type 0 where
  verify : {m : List ℕ} → m ≡ mframe_of Verify zeros (mcrc_of (register_over all_ones zeros)) → Order m
  respond : {m : List ℕ} → m ≡ mframe_of Respond zeros (mcrc_of (register_over all_ones zeros)) → Order m

-- all that a sender sends
abbrev pub Flow : Sender → List MFrame → Type 0
Flow s [] = Unit {0}
Flow s (express body m fate ∷ ms) = Whole body m × Flow s ms
Flow s (part body done m fate ∷ ms) = (piece : List ℕ) × (Emits s piece body done m × Flow (onward s piece done) ms)
Flow s (order m fate ∷ ms) = Order m × Flow s ms
