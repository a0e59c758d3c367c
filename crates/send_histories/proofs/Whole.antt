-- What calls over one body send, taken together, is the body.
-- Assumes nothing.
use mathlib.Core.Path.{◌≡◌, refl, sym, ap, ap₂, ◌∙◌}
use mathlib.Core.Bool.{Bool, true, false, false≢true}
use mathlib.Core.List.{List, [], ◌∷◌, ◌++◌, append_assoc, append-nil}
use Prim.Native.Nat.{ℕ, ◌+◌, ◌-◌, ◌≤◌}
use native.Mathlib.Omega.{arith}
use lib.ListN.{length, take, drop, length-drop, take-append-drop}
use lib.Seq.{take_at, drop_at, take_all, drop-drop}
use Rattle.std.specs.Prelude.{Option, Some, None}
use Rattle.crc.specs.Crc.{all_ones, register_over}
use Rattle.mframe.specs.Octets.{header_of, mframe_of}
use Rattle.mframe.specs.declared.Kind.{Kind}
use Rattle.mframe.proofs.Laws.{header_length, mframe_length}
use Rattle.sender_record.specs.Refusals.{refusal_of}
use Rattle.sender_record.specs.declared.Record.{Record}
use Rattle.sender_part.specs.Parts.{part_now, end_of, is_done, kind_of}
use Rattle.send.specs.Preemptable.{check_of, record_after, mframe, Step, go, sent_of, unless}
use Rattle.send.proofs.Laws.{check_length}
use Rattle.send_histories.specs.Whole.{Call, setting, Written, after, written, data_in, joined}

-- the data that an mFrame carries
data_in_lem : (kind : Kind) (part check : List ℕ) → length check ≡ 4 → data_in (mframe_of kind part check) ≡ part
data_in_lem kind part check h =
    let n : length (mframe_of kind part check) - 12 ≡ length part = omega (arith, mframe_length kind part check) in
    let behind : drop 8 (mframe_of kind part check) ≡ part ++ check =
    ap (drop 8) (append_assoc (header_of kind) part check) ∙ drop_at (header_of kind) (part ++ check) 8 (header_length kind) in
    ap₂ (λ (k : ℕ) (l : List ℕ). take k l) n behind ∙ take_at part check (length part) refl

part_data : (r : Record) (body : List ℕ) (to : ℕ) (done : Bool) → data_in (mframe r body to done) ≡ take (to - r.sent) (drop r.sent body)
part_data r body to done =
    let register : ℕ = register_over all_ones (take to body) in
    data_in_lem (kind_of r) (take (to - r.sent) (drop r.sent body)) (check_of register done) (check_length register done)

module _ (body : List ℕ) where
  -- what is written from a step on
  abbrev pub from : Step → List Call → Written
  from s cs = after s.said s.octets (written body s.after cs)

  module _ (c : Call) (cs : List Call) (r : Record) where
    -- a call's part, whole or cut, and the data that follow it
    part_left : ((q : Record) → (written body q cs).ended ≡ true → joined (written body q cs).mframes ≡ drop q.sent body)
        → (p : Option ℕ) → (let w = from (go (setting c r) body (end_of r.sent (length body) p) (is_done p)) cs in w.ended ≡ true → joined w.mframes ≡ drop r.sent body)
    unfolding joined
    part_left ih None e =
        append-nil (data_in (mframe (setting c r) body (length body) true)) ∙ part_data (setting c r) body (length body) true
        ∙ take_all (length body - r.sent) (drop r.sent body) (let g : length (drop r.sent body) ≤ length body - r.sent = omega (arith, length-drop r.sent body) in g)
    part_left ih (Some k) e =
        let n : r.sent + k - r.sent ≡ k = omega arith in
        ap₂ (λ (x y : List ℕ). x ++ y)
        (part_data (setting c r) body (r.sent + k) false ∙ ap (λ (j : ℕ). take j (drop r.sent body)) n)
        (ih (record_after (setting c r) (length body) (r.sent + k) false) e ∙ sym (drop-drop k r.sent body))
        ∙ take-append-drop k (drop r.sent body)

    call-left : ((q : Record) → (written body q cs).ended ≡ true → joined (written body q cs).mframes ≡ drop q.sent body)
        → (o : Option ℕ) → (let w = from (unless o (setting c r) (sent_of (setting c r) body c.ask)) cs in w.ended ≡ true → joined w.mframes ≡ drop r.sent body)
    unfolding sent_of
    call-left ih (Some k) e = ih (setting c r) e
    call-left ih None e = part_left ih (part_now (setting c r) (length body) c.ask) e

  -- from a record on, the data are what is left of the body
  joined_left : (cs : List Call) (r : Record) → (written body r cs).ended ≡ true → joined (written body r cs).mframes ≡ drop r.sent body
  unfolding written
  joined_left [] r e = absurd (false≢true e)
  joined_left (c ∷ cs) r e = call-left c cs r (joined_left cs) (refusal_of (setting c r) (length body) c.room) e

  -- from a record with no frame in progress, the data of the mFrames are the body
  pub sends_the_body : (cs : List Call) (r : Record) → r.sent ≡ 0 → (written body r cs).ended ≡ true → joined (written body r cs).mframes ≡ body
  sends_the_body cs r z e = joined_left cs r e ∙ ap (λ (k : ℕ). drop k body) z
