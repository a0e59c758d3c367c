-- What holds of the second receiver after any octets and ends, from an empty state: it answers, keeps and leaves what the first receiver does on
-- each run of octets between ends. Assumes nothing.
use mathlib.Core.Path.{◌≡◌, refl, sym, ap, subst, ◌∙◌}
use mathlib.Core.List.{List, [], ◌∷◌, ◌++◌, append-nil}
use Prim.Native.Nat.{ℕ, ◌≤◌}
use lib.ListN.{length, take}
use lib.Seq.{append_snoc}
use Rattle.receiver_record.specs.declared.Record.{Record}
use Rattle.receive.specs.Receive.{received_of, buffer_of}
use Rattle.receive_histories.specs.History.{record_after, buffer_after}
use Rattle.std.specs.Prelude.{Option, Some, None}
use Rattle.stream.specs.Stream.{most, stored, Saying, waits, answers, ended_by, Turn, stream_of}
use Rattle.stream_histories.specs.Streaming.{next, left_by, replies, begun, octets, runs, since, answers_to, at_ends, state_after, Holds}
use Rattle.stream_histories.proofs.Turns.{turn, Keeps, stored-length, keeps-octet, next-octet, next-end}

go : (gs : List (Option ℕ)) (m area : List ℕ) (p : Saying) (r : Record) (b : List ℕ) → Keeps m area → Holds gs m (turn p (state_after m) area r b)
unfolding replies left_by runs since answers_to at_ends record_after buffer_after
go [] m area p r b k = record { answered = refl; after = refl; buffer = refl; state = refl; kept = k.kept; room = refl }
go (Some x ∷ gs) m area p r b k =
    let e = next-octet m x area k p r b in
    let h = go gs (m ++ x ∷ []) (stored x (state_after m) area) waits r b (keeps-octet m x area k) in
    record {
      answered = ap (λ (t : Turn). t.reply ∷ replies gs t) e ∙ ap (λ (l : List Saying). waits ∷ l) h.answered;
      after = ap (λ (t : Turn). (left_by gs t).after) e ∙ h.after;
      buffer = ap (λ (t : Turn). (left_by gs t).buffer) e ∙ h.buffer;
      state = ap (λ (t : Turn). (left_by gs t).state) e ∙ h.state;
      kept = ap (λ (t : Turn). take (length (take most (since (m ++ x ∷ []) gs))) (left_by gs t).area) e ∙ h.kept;
      room = ap (λ (t : Turn). length (left_by gs t).area) e ∙ h.room ∙ stored-length m x area k;
    }
go (None ∷ gs) m area p r b k =
    let e = next-end m area k p r b in
    let a = answers (received_of m r (length b)).said in
    let h = go gs [] area a (received_of m r (length b)).after (buffer_of m r b) (record { roomy = k.roomy; kept = refl }) in
    record {
      answered = ap (λ (t : Turn). t.reply ∷ replies gs t) e ∙ ap (λ (l : List Saying). a ∷ l) h.answered;
      after = ap (λ (t : Turn). (left_by gs t).after) e ∙ h.after;
      buffer = ap (λ (t : Turn). (left_by gs t).buffer) e ∙ h.buffer;
      state = ap (λ (t : Turn). (left_by gs t).state) e ∙ h.state;
      kept = ap (λ (t : Turn). take (length (take most (since [] gs))) (left_by gs t).area) e ∙ h.kept;
      room = ap (λ (t : Turn). length (left_by gs t).area) e ∙ h.room;
    }

-- from an empty state, with an area of 1,531 octets or more, any record and any buffer
pub histories : (gs : List (Option ℕ)) (area : List ℕ) (r : Record) (b : List ℕ) → most ≤ length area → Holds gs [] (begun area r b)
histories gs area r b roomy = go gs [] area waits r b (record { roomy = roomy; kept = refl })

-- a run by itself: octets look at neither record nor buffer, so its end may come with others, as left meanwhile by another run with its own state and area
end_alone : (xs m area : List ℕ) (p : Saying) (r r' : Record) (b b' : List ℕ) → Keeps m area
    → let t = left_by (octets xs) (turn p (state_after m) area r b) in next None (turn p t.state t.area r' b') ≡ ended_by (m ++ xs) t.area r' b'
unfolding left_by octets
end_alone [] m area p r r' b b' k = next-end m area k p r' b' ∙ ap (λ (l : List ℕ). ended_by l area r' b') (sym (append-nil m))
end_alone (x ∷ xs) m area p r r' b b' k =
    let h = end_alone xs (m ++ x ∷ []) (stored x (state_after m) area) waits r r' b b' (keeps-octet m x area k) in
    subst (λ (t : Turn). next None (turn p (left_by (octets xs) t).state (left_by (octets xs) t).area r' b') ≡ ended_by (m ++ x ∷ xs) (left_by (octets xs) t).area r' b')
    (sym (next-octet m x area k p r b)) (rw (← append_snoc m x xs) h)

pub alone : (xs area : List ℕ) (r r' : Record) (b b' : List ℕ) → most ≤ length area
    → let t = left_by (octets xs) (begun area r b) in stream_of None t.state t.area r' b' ≡ ended_by xs t.area r' b'
alone xs area r r' b b' roomy = end_alone xs [] area waits r r' b b' (record { roomy = roomy; kept = refl })
