-- The mCRC that is shown in a fragment is the standard's over all of its frame's octets so far: those that the receiver then keeps of the frame.
-- Assumes nothing.
use mathlib.Core.Path.{◌≡◌, refl, sym, ap, ap₂, ◌∙◌}
use mathlib.Core.Bool.{Bool, true, ◌||◌}
use mathlib.Core.List.{List, [], ◌∷◌, ◌++◌}
use Prim.Native.Nat.{ℕ}
use lib.Dec.{eqb}
use lib.ListN.{length, get_or, take}
use Rattle.crc.specs.Crc.{all_ones, register_over, standard_mcrc_of}
use Rattle.endings.specs.Judge.{data_of}
use Rattle.heads.specs.Head.{head_of}
use Rattle.receiver_record.specs.declared.Record.{Record}
use Rattle.receiver_record.specs.Records.{fresh}
use Rattle.receive.specs.Receive.{received_of, buffer_of}
use Rattle.receive.proofs.Lengths.{buffer_length_lem}
use Rattle.receive_histories.specs.History.{record_after, buffer_after}
use Rattle.receive_histories.proofs.Histories.{histories}
use Rattle.eyes_records.specs.Shown.{register_behind, is_right, shown_of}
use Rattle.eyes_records.proofs.Right.{right}
use Rattle.eyes_records.proofs.Laws.{shown_standard}
use Rattle.eyes.specs.Eyes.{buffer_length, shown_from}

-- one more mFrame
record_more : (r : Record) (b : List ℕ) (ms : List (List ℕ)) (m : List ℕ)
    → record_after r b (ms ++ m ∷ []) ≡ (received_of m (record_after r b ms) (length (buffer_after r b ms))).after
unfolding record_after buffer_after
record_more r b [] m = refl
record_more r b (x ∷ ms) m = record_more (received_of x r (length b)).after (buffer_of x r b) ms m

buffer_more : (r : Record) (b : List ℕ) (ms : List (List ℕ)) (m : List ℕ) → buffer_after r b (ms ++ m ∷ []) ≡ buffer_of m (record_after r b ms) (buffer_after r b ms)
unfolding record_after buffer_after
buffer_more r b [] m = refl
buffer_more r b (x ∷ ms) m = buffer_more (received_of x r (length b)).after (buffer_of x r b) ms m

-- what the call shows of a content, by the receiver's own history
shown_there : (r : Record) (b : List ℕ) (ms : List (List ℕ)) (m : List ℕ) (rest : List (List ℕ)) → length b ≡ buffer_length
    → get_or (shown_from r (ms ++ m ∷ rest)) (length ms) [] ≡ shown_of m (record_after r b ms) (length (buffer_after r b ms))
unfolding shown_from record_after buffer_after
shown_there r b [] m rest e = ap (shown_of m r) (sym e)
shown_there r b (x ∷ ms) m rest e =
    ap (λ (k : ℕ). get_or (shown_from (received_of x r k).after (ms ++ m ∷ rest)) (length ms) []) (sym e)
    ∙ shown_there (received_of x r (length b)).after (buffer_of x r b) ms m rest (buffer_length_lem x r b ∙ e)

-- any mFrames ms given to a fresh receiver, and then m, which is answered 2: the octets kept are the buffer's first ones
module _ (b : List ℕ) (ms : List (List ℕ)) (m : List ℕ) where
  abbrev r : Record
  r = record_after fresh b ms

  abbrev before : List ℕ
  before = buffer_after fresh b ms

  abbrev frame : List ℕ
  frame = take (received_of m r (length before)).said.detail (buffer_of m r before)

  abbrev Two : Type 0
  Two = eqb (received_of m r (length before)).said.number 2 ≡ true

  answered : Two → is_right m r (length before) ≡ true
  answered q = let n : ℕ = (received_of m r (length before)).said.number in ap (λ (t : Bool). t || (eqb n 3 || eqb n 4)) q

  register_of_frame : Two → register_behind (head_of m) m r ≡ register_over all_ones frame
  register_of_frame q =
      let k = (right m r (length before) (answered q)).keeps q in
      let more = record_more fresh b ms m in
      let all = histories b (ms ++ m ∷ []) in
      sym k.running ∙ sym (ap (λ (x : Record). x.running) more) ∙ all.running (ap (λ (x : Record). x.assembling) more ∙ k.assembling)
      ∙ ap₂ (λ (n : ℕ) (l : List ℕ). register_over all_ones (take n l)) (ap (λ (x : Record). x.kept) more ∙ k.kept) (buffer_more fresh b ms m)

  -- so is shown what the call shows of it, whatever comes behind
  pub over_the_frame : length b ≡ buffer_length → Two → (rest : List (List ℕ))
      → get_or (shown_from fresh (ms ++ m ∷ rest)) (length ms) [] ≡ data_of m ++ standard_mcrc_of (register_over all_ones frame)
  over_the_frame e q rest =
      shown_there fresh b ms m rest e ∙ shown_standard m r (length before) (answered q) ∙ ap (λ (x : ℕ). data_of m ++ standard_mcrc_of x) (register_of_frame q)
