-- The mFrames of a frame carry S, then C with fragment counts 0, 1, 2, 3, 0 .., all with the frame's count.
-- Assumes nothing.
use mathlib.Core.Path.{◌≡◌, refl, ap, ap₂, ◌∙◌}
use mathlib.Core.Bool.{Bool, true, false, cond}
use mathlib.Core.List.{List, [], ◌∷◌, ◌++◌, append_assoc, map}
use mathlib.Core.Logic.{⊎_elim}
use Prim.Native.Nat.{ℕ, ◌+◌, ◌-◌, ◌%◌, ◌≤◌, ◌<◌}
use native.Mathlib.Omega.{arith}
use borrow.Author.Tests.{eq-eqb, ne_eqb}
use lib.Dec.{eqb}
use lib.ListN.{length, take, drop, length-append, length-drop}
use lib.Seq.{length-take-le}
use Rattle.std.specs.Prelude.{Option, Some, None}
use Rattle.crc.specs.Crc.{all_ones, register_over}
use Rattle.codes.specs.Codes.{frame, fragment, next_frame, last_frame, next_fragment}
use Rattle.codes.specs.declared.FrameCount.{FrameCount}
use Rattle.codes.specs.declared.FragmentCount.{FragmentCount}
use Rattle.mframe.specs.Octets.{header_of}
use Rattle.heads.specs.Head.{Reading, known, head_of}
use Rattle.mframe.specs.declared.Kind.{Kind}
use Rattle.mframe.specs.declared.Kind.TheVariants.{Express, Start, Continuation}
use Rattle.mframe.proofs.Laws.{Counted}
use Rattle.heads.proofs.Laws.{head_read}
use Rattle.sender_record.specs.Refusals.{refusal_of}
use Rattle.sender_record.specs.declared.Record.{Record}
use Rattle.sender_record.proofs.Laws.{Range, Idle, Going, Passed, passed}
use Rattle.sender_part.specs.Parts.{part_now, end_of, is_done, kind_of}
use Rattle.send.specs.Preemptable.{check_of, frame_after, fragment_after, record_after, mframe, go, sent_of, unless}
use Rattle.sender_part.proofs.Laws.{cut_within}
use Rattle.send.proofs.Laws.{check_length}
use Rattle.send_histories.specs.Whole.{Call, setting, AllActive, Written, written, continuations, frame_kinds}
use Rattle.send_histories.proofs.Whole.{from}

-- the counts that a record in range gives its mFrame are under 4
fragment_under : (r : Record) → Range r → r.fragment.0 < 4
fragment_under r g = ⊎_elim (λ (i : Idle r). omega (arith, i.no_fragment)) (λ (w : Going r). omega (arith, w.small)) g.frame

counted : (r : Record) → Range r → Counted (kind_of r)
unfolding kind_of
counted r g = by (eqb r.length 0) r.active
  where
    by : (a b : Bool) → Counted (cond a (cond b (Start r.next) Express) (Continuation (last_frame r.next) r.fragment))
    by true true = omega (arith, g.next)
    by true false = tt
    by false b = (omega arith, fragment_under r g)

-- the head of an mFrame that a call writes
headed : (r : Record) (body : List ℕ) (to : ℕ) (done : Bool) → Range r → r.sent + 60 ≤ to → to ≤ length body → length body ≤ 1518
    → head_of (mframe r body to done) ≡ known (kind_of r) 8
headed r body to done g h k m =
    let part : List ℕ = take (to - r.sent) (drop r.sent body) in
    let check : List ℕ = check_of (register_over all_ones (take to body)) done in
    let n : length part ≡ to - r.sent = length-take-le _ _ (let w : to - r.sent ≤ length (drop r.sent body) = omega (arith, length-drop r.sent body) in w) in
    let l : length (part ++ check) ≡ to - r.sent + 4 = length-append part check ∙ ap₂ (λ (x y : ℕ). x + y) n (check_length (register_over all_ones (take to body)) done) in
    ap head_of (append_assoc (header_of (kind_of r)) part check) ∙ head_read (part ++ check) (omega arith) (omega arith) (kind_of r) (counted r g)

-- a frame in progress goes on with C; its counts after a part
abbrev told : Kind → Reading
told k = known k 8

going_kind : (r : Record) → (r.length ≡ 0 → ⊥) → kind_of r ≡ Continuation (last_frame r.next) r.fragment
unfolding kind_of
going_kind r z = simp (ne_eqb r.length 0 z)

going_frame : (r : Record) → (r.length ≡ 0 → ⊥) → frame_after r ≡ r.next
unfolding frame_after
going_frame r z = simp (ne_eqb r.length 0 z)

going_fragment : (r : Record) → (r.length ≡ 0 → ⊥) → fragment_after r ≡ next_fragment r.fragment
unfolding fragment_after
going_fragment r z = simp (ne_eqb r.length 0 z)

-- a frame not yet begun, on an active port, goes with S
first_kind : (r : Record) → r.length ≡ 0 → r.active ≡ true → kind_of r ≡ Start r.next
unfolding kind_of
first_kind r z a = simp (eq-eqb r.length 0 z, a)

first_frame : (r : Record) → r.length ≡ 0 → r.active ≡ true → frame_after r ≡ next_frame r.next
unfolding frame_after
first_frame r z a = simp (eq-eqb r.length 0 z, a)

first_fragment : (r : Record) → r.length ≡ 0 → fragment_after r ≡ fragment 0
unfolding fragment_after
first_fragment r z = simp (eq-eqb r.length 0 z)

-- the count before the next is the count
back : (n : FrameCount) → n.0 ≤ 3 → last_frame (next_frame n) ≡ n
back n h = ap frame (let e : ((n.0 + 1) % 4 + 3) % 4 ≡ n.0 = omega arith in e)

module _ (body : List ℕ) where
  abbrev heads : Written → List Reading
  heads w = map head_of w.mframes

  -- the mFrames written are the continuations of a frame in progress
  abbrev GoesOn : Record → Written → Type 0
  GoesOn r w = heads w ≡ map told (continuations (last_frame r.next) r.fragment (length w.mframes))

  -- or all of the frame's
  abbrev Begins : Record → Written → Type 0
  Begins r w = heads w ≡ map told (frame_kinds r.next (length w.mframes))

  module _ (c : Call) (cs : List Call) (r : Record) (ok : Passed (setting c r) (length body) c.room) where
    -- the record with the call's settings, and the one after a cut at octet to
    abbrev q : Record
    q = setting c r

    abbrev cut_at : ℕ → Record
    cut_at to = record_after q (length body) to false

    not_none : length body ≡ 0 → ⊥
    not_none e = omega (arith, ok.least)

    part-goes-on : (r.length ≡ 0 → ⊥) → ((x : Record) → (x.length ≡ 0 → ⊥) → GoesOn x (written body x cs))
        → (p : Option ℕ) → part_now q (length body) c.ask ≡ p → GoesOn r (from body (go q body (end_of r.sent (length body) p) (is_done p)) cs)
    unfolding continuations
    part-goes-on z ih None e =
        ap (λ (x : Reading). x ∷ []) (headed q body (length body) true ok.range ok.left (omega arith) ok.most ∙ ap told (going_kind q z))
    part-goes-on z ih (Some k) e =
        let w = cut_within q (length body) c.ask k e in
        let to : ℕ = r.sent + k in
        ap₂ (λ (x : Reading) (l : List Reading). x ∷ l)
        (headed q body to false ok.range w.part (omega (arith, w.left)) ok.most ∙ ap told (going_kind q z))
        (ih (cut_at to) not_none
        ∙ ap₂ (λ (n : FrameCount) (f : FragmentCount). map told (continuations (last_frame n) f (length (written body (cut_at to) cs).mframes))) (going_frame q z) (going_fragment q z))

    part-begins : r.length ≡ 0 → c.active ≡ true → ((x : Record) → (x.length ≡ 0 → ⊥) → GoesOn x (written body x cs))
        → (p : Option ℕ) → part_now q (length body) c.ask ≡ p → Begins r (from body (go q body (end_of r.sent (length body) p) (is_done p)) cs)
    unfolding continuations
    part-begins z a on None e =
        ap (λ (x : Reading). x ∷ []) (headed q body (length body) true ok.range ok.left (omega arith) ok.most ∙ ap told (first_kind q z a))
    part-begins z a on (Some k) e =
        let w = cut_within q (length body) c.ask k e in
        let to : ℕ = r.sent + k in
        ap₂ (λ (x : Reading) (l : List Reading). x ∷ l)
        (headed q body to false ok.range w.part (omega (arith, w.left)) ok.most ∙ ap told (first_kind q z a))
        (on (cut_at to) not_none
        ∙ ap₂ (λ (n : FrameCount) (f : FragmentCount). map told (continuations n f (length (written body (cut_at to) cs).mframes)))
        (ap last_frame (first_frame q z a) ∙ back r.next ok.range.next) (first_fragment q z))

  module _ (c : Call) (cs : List Call) (r : Record) where
    call-goes-on : (r.length ≡ 0 → ⊥) → ((x : Record) → (x.length ≡ 0 → ⊥) → GoesOn x (written body x cs))
        → (o : Option ℕ) → refusal_of (setting c r) (length body) c.room ≡ o → GoesOn r (from body (unless o (setting c r) (sent_of (setting c r) body c.ask)) cs)
    unfolding sent_of
    call-goes-on z ih (Some k) e = ih (setting c r) z
    call-goes-on z ih None e =
        part-goes-on c cs r (passed (setting c r) (length body) c.room e) z ih (part_now (setting c r) (length body) c.ask) refl

    call-begins : r.length ≡ 0 → c.active ≡ true → ((x : Record) → (x.length ≡ 0 → ⊥) → GoesOn x (written body x cs)) → Begins (setting c r) (written body (setting c r) cs)
        → (o : Option ℕ) → refusal_of (setting c r) (length body) c.room ≡ o → Begins r (from body (unless o (setting c r) (sent_of (setting c r) body c.ask)) cs)
    unfolding sent_of
    call-begins z a on ih (Some k) e = ih
    call-begins z a on ih None e =
        part-begins c cs r (passed (setting c r) (length body) c.room e) z a on (part_now (setting c r) (length body) c.ask) refl

  -- a frame in progress goes on with C, up by one modulo 4, whether the port is active or not
  pub goes_on : (cs : List Call) (r : Record) → (r.length ≡ 0 → ⊥) → GoesOn r (written body r cs)
  unfolding written continuations
  goes_on [] r z = refl
  goes_on (c ∷ cs) r z = call-goes-on c cs r z (goes_on cs) (refusal_of (setting c r) (length body) c.room) refl

  -- a frame sent on an active port: S with the next frame count, then C with that count and fragment counts 0, 1, 2, 3, 0 ..
  pub numbered : (cs : List Call) (r : Record) → r.length ≡ 0 → AllActive cs → Begins r (written body r cs)
  unfolding written
  numbered [] r z a = refl
  numbered (c ∷ cs) r z a =
      call-begins c cs r z a.0 (goes_on cs) (numbered cs (setting c r) z a.1) (refusal_of (setting c r) (length body) c.room) refl
