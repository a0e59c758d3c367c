-- What a sending record stands for, and what a preemptable call that is not refused does. Assumes nothing.
use mathlib.Core.Path.{◌≡◌, refl, sym, ap, ap₂, ◌∙◌}
use mathlib.Core.Bool.{Bool, true, false}
use mathlib.Core.List.{List, ◌++◌}
use Prim.Native.Nat.{ℕ, ◌+◌, ◌-◌, ◌%◌, ◌≤◌, ◌<◌}
use native.Mathlib.Omega.{arith}
use borrow.Author.Tests.{ne_eqb}
use lib.Dec.{eqb}
use lib.ListN.{length, take, drop, length-drop}
use lib.Seq.{take-add, take-length, length-take-le}
use Rattle.std.specs.Prelude.{Option, Some, None}
use Rattle.crc.specs.Crc.{all_ones, register_over}
use Rattle.codes.specs.Codes.{frame, fragment}
use Rattle.mframe.specs.Octets.{mframe_of}
use Rattle.mframe.specs.declared.Kind.{Kind}
use Rattle.mframe.specs.declared.Kind.TheVariants.{Continuation}
use Rattle.mframe.proofs.Laws.{Counted}
use Rattle.sender_record.specs.declared.Record.{Record}
use Rattle.sender_part.specs.Parts.{kind_of}
use Rattle.send.specs.Preemptable.{check_of, frame_after, fragment_after, record_after, mframe}
use Rattle.link.specs.Sender.{setting}
use Rattle.link.specs.Frames.{Same, progress}
use Rattle.link.proofs.Flow.{Sender, idle, busy, sofar, kind_from, onward, Emits}

-- what a record stands for, with the body of the frame in progress
pub data Means : Record → Option (List ℕ) → Sender → Type 0 where
  m_idle : {h : Bool} {x k : ℕ} → k < 4
      → Means (record { active = true; hold = h; extra = x; next = frame k; length = 0; sent = 0; fragment = fragment 0 }) None (idle k)
  m_busy : {h : Bool} {x k j s : ℕ} {p : List ℕ} → k < 4 → j < 4 → 1 ≤ length p
      → Means (record { active = true; hold = h; extra = x; next = frame ((k + 1) % 4); length = length p; sent = s; fragment = fragment j }) (Some p) (busy k j (take s p))

pub means_setting : {r : Record} {p : Option (List ℕ)} {s : Sender} → Means r p s → (h : Bool) (x : ℕ) → Means (setting h x r) p s
means_setting (m_idle a) h x = m_idle a
means_setting (m_busy a b c) h x = m_busy a b c

-- the kind of the next mFrame
nonzero : (p : List ℕ) → 1 ≤ length p → eqb (length p) 0 ≡ false
nonzero p h = ne_eqb (length p) 0 (λ e. omega arith)

kind_is : {r : Record} {p : Option (List ℕ)} {s : Sender} → Means r p s → kind_of r ≡ kind_from s
unfolding kind_of
kind_is (m_idle a) = refl
kind_is (m_busy {k = k} {j = j} {p = p} a b c) =
    rw (nonzero p c) (ap (λ (n : ℕ). Continuation (frame n) (fragment j)) (let e : ((k + 1) % 4 + 3) % 4 ≡ k = omega arith in e))

counted_is : {r : Record} {p : Option (List ℕ)} {s : Sender} → Means r p s → Counted (kind_from s)
counted_is (m_idle a) = a
counted_is (m_busy a b c) = (a, b)

-- the octets sent so far are the body's first
sofar_is : {r : Record} {p : Option (List ℕ)} {s : Sender} → Means r p s → (body : List ℕ) → Same p body → sofar s ≡ take r.sent body
sofar_is (m_idle a) body e = refl
sofar_is (m_busy {s = s} a b c) body e = ap (take s) (sym e)

-- the octets up to octet to of a body
abbrev pub up_to : Record → List ℕ → ℕ → List ℕ
up_to r body to = take (to - r.sent) (drop r.sent body)

module _ {r : Record} {p : Option (List ℕ)} {s : Sender} (i : Means r p s) (body : List ℕ) (same : Same p body) (to : ℕ) (low : r.sent + 60 ≤ to) where
  joined : sofar s ++ up_to r body to ≡ take to body
  joined =
      ap (λ (l : List ℕ). l ++ up_to r body to) (sofar_is i body same) ∙ sym (take-add r.sent (to - r.sent) body)
      ∙ ap (λ (n : ℕ). take n body) (let e : r.sent + (to - r.sent) ≡ to = omega arith in e)

  pub emits : to ≤ length body → length body ≤ 1518 → (done : Bool) → (done ≡ true → to ≡ length body) → Emits s (up_to r body to) body done (mframe r body to done)
  emits fits most done at_end =
      let n : length (up_to r body to) ≡ to - r.sent = length-take-le (to - r.sent) (drop r.sent body) (omega (arith, length-drop r.sent body)) in
      let l : length (take to body) ≡ to = length-take-le to body fits in
      record {
        is = ap₂ (λ (kind : Kind) (l : List ℕ). mframe_of kind (up_to r body to) (check_of (register_over all_ones l) done)) (kind_is i) (sym joined);
        counted = counted_is i;
        low = omega arith;
        high = rw joined (omega arith);
        whole = λ e. joined ∙ ap (λ (n : ℕ). take n body) (at_end e) ∙ take-length body;
      }

pub means_after : {r : Record} {p : Option (List ℕ)} {s : Sender} (i : Means r p s) (body : List ℕ) (same : Same p body) (to : ℕ) (low : r.sent + 60 ≤ to)
    → 60 ≤ length body → (done : Bool) → Means (record_after r (length body) to done) (progress done body) (onward s (up_to r body to) done)
unfolding frame_after fragment_after
means_after (m_idle {k = k} a) body same to low least true = m_idle {k = (k + 1) % 4} (omega arith)
means_after (m_idle {h = h} {x = x} a) body same to low least false =
    rw (joined (m_idle {h = h} {x = x} a) body same to low) (m_busy {j = 0} {p = body} a (omega arith) (omega arith))
means_after (m_busy {k = k} {p = p} a b c) body same to low least true = rw (nonzero p c) (m_idle {k = (k + 1) % 4} (omega arith))
means_after (m_busy {h = h} {x = x} {j = j} {s = s} {p = p} a b c) body same to low least false =
    rw (nonzero p c, joined (m_busy {h = h} {x = x} {s = s} a b c) body same to low) (m_busy {j = (j + 1) % 4} {p = body} a (omega arith) (omega arith))
