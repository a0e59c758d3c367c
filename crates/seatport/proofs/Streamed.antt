-- The promise of an end, told in words, from what is known at each return of the code; and that it is an end of `stream`.
-- Assumes nothing.
use mathlib.Core.Path.{◌≡◌, refl, sym, ap, ap₂, subst, ◌∙◌}
use mathlib.Core.Bool.{Bool, true, false, cond, ◌&&◌}
use mathlib.Core.List.{List, [], ◌∷◌}
use Prim.Native.Nat.{ℕ, ◌-◌, ◌≤◌}
use native.Mathlib.Nat.{sub-zero}
use native.Mathlib.Omega.{arith}
use borrow.Author.Tests.{le-ltb, ne_eqb}
use lib.Dec.{ltb}
use lib.ListN.{length, take}
use Rattle.heads.specs.Head.{refused, head_of}
use Rattle.receiver_record.specs.declared.Record.{Record}
use Rattle.receiver_record.specs.Records.{in_range}
use Rattle.receive.specs.Receive.{received_of, buffer_of}
use Rattle.receiver_answers.specs.Answers.{says}
use Rattle.outcomes.specs.Outcomes.{Step}
use Rattle.receiver_words.specs.Receiver.{receiver_words, receiver_fits, receiver_of}
use Rattle.receiver_words.proofs.Laws.{receiver_written}
use Rattle.std.specs.Prelude.{None}
use Rattle.stream.specs.Stream.{most, unsound, heard, runs_over, Turn, stream_of}
use Rattle.stream.proofs.Laws.{long_received, long_buffer}
use Rattle.stream.proofs.Heard.{over-long, kept-alike}
use Rattle.words.specs.Words.{word, flag_at}
use Rattle.stream_words.specs.State.{state_of, state_words, refusal_of, too_long}
use Rattle.stream_words.proofs.Laws.{passed, state_written, number_of, detail_of}
use Rattle.seatport.specs.Receiving.{Receiving, Received, told, unfit, receiving_of}
use Rattle.seatport.specs.Streaming.{Ending, end_of, Ended}

-- nine words that are a record's are what that record is written as
written : (w : List ℕ) → length w ≡ 9 → receiver_fits w ≡ true → receiver_words (receiver_of w) ≡ w
written (a ∷ f ∷ g ∷ k ∷ c ∷ e ∷ d ∷ m ∷ n ∷ []) h q = receiver_written a f g k c e d m n q
written [] h q = absurd (let y : ⊥ = omega arith in y)
written (a ∷ []) h q = absurd (let y : ⊥ = omega arith in y)
written (a ∷ f ∷ []) h q = absurd (let y : ⊥ = omega arith in y)
written (a ∷ f ∷ g ∷ []) h q = absurd (let y : ⊥ = omega arith in y)
written (a ∷ f ∷ g ∷ k ∷ []) h q = absurd (let y : ⊥ = omega arith in y)
written (a ∷ f ∷ g ∷ k ∷ c ∷ []) h q = absurd (let y : ⊥ = omega arith in y)
written (a ∷ f ∷ g ∷ k ∷ c ∷ e ∷ []) h q = absurd (let y : ⊥ = omega arith in y)
written (a ∷ f ∷ g ∷ k ∷ c ∷ e ∷ d ∷ []) h q = absurd (let y : ⊥ = omega arith in y)
written (a ∷ f ∷ g ∷ k ∷ c ∷ e ∷ d ∷ m ∷ []) h q = absurd (let y : ⊥ = omega arith in y)
written (a ∷ f ∷ g ∷ k ∷ c ∷ e ∷ d ∷ m ∷ n ∷ o ∷ l) h q = absurd (let y : ⊥ = omega arith in y)

-- an answer that changes nothing
numbered : ℕ → List ℕ → List ℕ → Receiving
numbered n w b = record { number = n; detail = 0; receiver = w; buffer = b }

-- octets whose head is refused as too long: the number alone is told, and nothing changes
long_words : (w m b : List ℕ) → length w ≡ 9 → head_of m ≡ refused 13 0 → receiving_of w m b ≡ numbered (too_long w (length b)) w b
unfolding receiving_of too_long numbered
long_words w m b nine h =
    ap₂ (λ (p : Step) (l : List ℕ). cond (receiver_fits w) (told p l) (unfit w b)) (long_received m h (receiver_of w) (length b)) (long_buffer m h (receiver_of w) b)
    ∙ go (receiver_fits w) (ltb (length b) 1518) (in_range (receiver_of w)) refl
  where
    go : (fits short good : Bool) → receiver_fits w ≡ fits
        → cond fits (told (record { said = cond short (says 10 0) (cond good (says 13 0) (says 11 0)); after = receiver_of w }) b) (numbered (cond short 10 11) w b)
        ≡ numbered (cond short 10 (cond (fits && good) 13 11)) w b
    go true true good q = ap (λ (v : List ℕ). numbered 10 v b) (written w nine q)
    go true false true q = ap (λ (v : List ℕ). numbered 13 v b) (written w nine q)
    go true false false q = ap (λ (v : List ℕ). numbered 11 v b) (written w nine q)
    go false true good q = refl
    go false false good q = refl

-- octets with which the first receiver does the same are told alike
alike_words : (w m m' b : List ℕ) → ((r : Record) (room : ℕ) → received_of m r room ≡ received_of m' r room) → ((r : Record) (l : List ℕ) → buffer_of m r l ≡ buffer_of m' r l)
    → receiving_of w m b ≡ receiving_of w m' b
unfolding receiving_of
alike_words w m m' b f g = rw (f (receiver_of w) (length b), g (receiver_of w) b)

-- an end: refused; of an mFrame that runs over; of one that does not
module _ (v area w b : List ℕ) where
  pub refused_end : {number : ℕ} → (number ≡ 0 → ⊥) → number ≡ refusal_of v (length area) → Ended (end_of v area w b) number v 0 w b
  unfolding end_of
  refused_end some e =
      simp (ne_eqb (refusal_of v (length area)) 0 (λ q. some (e ∙ q))) (record { answer = e; state = refl; value = refl; after = refl; octets = refl })

  module _ (none : refusal_of v (length area) ≡ 0) where
    pub ended-long : {number count : ℕ} → runs_over (flag_at v 1) (take (count - 0) area) ≡ true → count ≡ word v 0 → length w ≡ 9 → number ≡ too_long w (length b) → Ended (end_of v area w b) number (0 ∷ 0 ∷ []) 0 w b
    unfolding end_of numbered
    ended-long {number} {count} over c nine e =
        let p = passed v (length area) none in
        let o : runs_over (flag_at v 1) (take (word v 0) area) ≡ true = rw (← c, ← sub-zero count) over in
        let l = long_words w (heard (state_of v) area) b nine (over-long (state_of v) p.sound area p.roomy o) in
        simp (none, l) (record { answer = e; state = refl; value = refl; after = refl; octets = refl })

    pub ended : {number detail count : ℕ} {receiver b' : List ℕ} → runs_over (flag_at v 1) (take (count - 0) area) ≡ false → count ≡ word v 0
        → Received (receiving_of w (take (count - 0) area) b) number detail receiver b' → Ended (end_of v area w b) number (0 ∷ 0 ∷ []) detail receiver b'
    unfolding end_of
    ended {number} {detail} {count} {receiver} {b'} over e h =
        let p = passed v (length area) none in
        let o : runs_over (flag_at v 1) (take (word v 0) area) ≡ false = rw (← e, ← sub-zero count) over in
        let same = kept-alike (state_of v) p.sound area p.roomy o in
        let kept : Received (receiving_of w (take (word v 0) area) b) number detail receiver b' = rw (← e, ← sub-zero count) h in
        let r : Received (receiving_of w (heard (state_of v) area) b) number detail receiver b' =
        subst (λ (t : Receiving). Received t number detail receiver b') (alike_words w (take (word v 0) area) (heard (state_of v) area) b same.0 same.1) kept in
        simp none (record { answer = r.answer; state = refl; value = r.value; after = r.after; octets = r.octets })

-- an end in words, where they are a state's and a record's, is an end of `stream`
pub record Same (e : Ending) (t : Turn) : Type 0 where
  pub number : e.received.number ≡ number_of t.reply
  pub detail : e.received.detail ≡ detail_of t.reply
  pub state : e.stream ≡ state_words t.state
  pub after : e.received.receiver ≡ receiver_words t.after
  pub buffer : e.received.buffer ≡ t.buffer

pub end_streamed : (n f : ℕ) (area w b : List ℕ) → f ≤ 1 → length w ≡ 9 → receiver_fits w ≡ true
    → Same (end_of (n ∷ f ∷ []) area w b) (stream_of None (state_of (n ∷ f ∷ [])) area (receiver_of w) b)
unfolding end_of refusal_of stream_of receiving_of
end_streamed n f area w b h nine fits = by (ltb (length area) most) (unsound (state_of (n ∷ f ∷ []))) refl refl
  where
    by : (short bad : Bool) → ltb (length area) most ≡ short → unsound (state_of (n ∷ f ∷ [])) ≡ bad
        → Same (end_of (n ∷ f ∷ []) area w b) (stream_of None (state_of (n ∷ f ∷ [])) area (receiver_of w) b)
    by true bad p q =
        simp p (record { number = refl; detail = refl; state = sym (state_written n f h); after = sym (written w nine fits); buffer = refl })
    by false true p q =
        simp (p, q, le-ltb 1 f h)
        (record { number = refl; detail = refl; state = sym (state_written n f h); after = sym (written w nine fits); buffer = refl })
    by false false p q = simp (p, q, le-ltb 1 f h, fits) (record { number = refl; detail = refl; state = refl; after = refl; buffer = refl })
