-- One call on a state that tells of the octets since the last end: an octet more, and the end.
-- Assumes nothing.
use mathlib.Core.Path.{◌≡◌, refl, sym, ap, ap₂, ◌∙◌}
use mathlib.Core.Bool.{Bool, true, false, cond, ◌||◌, ◌&&◌}
use mathlib.Core.List.{List, [], ◌∷◌, ◌++◌}
use Prim.Native.Nat.{ℕ, ◌+◌, ◌≤◌, ◌<◌}
use native.Mathlib.Omega.{arith}
use borrow.Author.Tests.{lt-ltb, le-ltb, ltb-true, ltb-false}
use lib.Dec.{ltb}
use lib.ListN.{length, take, drop, length-append, length-take}
use lib.Seq.{take_all, take_at, take-append-le, length-take-le}
use Rattle.octets.specs.Laid.{laid}
use Rattle.octets.proofs.Laid.{length_laid}
use Rattle.receiver_record.specs.declared.Record.{Record}
use Rattle.outcomes.specs.Outcomes.{Step}
use Rattle.std.specs.Prelude.{Some, None}
use Rattle.stream.specs.declared.State.{State}
use Rattle.stream.specs.Stream.{most, unsound, counted, stored, empty, heard, ended_by, Saying, waits, answers, Turn, stream_of}
use Rattle.stream.proofs.Laws.{suffice_received, suffice_buffer}
use Rattle.stream_histories.specs.Streaming.{next, state_after}

abbrev pub turn : Saying → State → List ℕ → Record → List ℕ → Turn
turn p s area r b = record { reply = p; state = s; area = area; after = r; buffer = b }

-- an area that has the octets m, as far as they are kept
pub record Keeps (m area : List ℕ) : Type 0 where
  pub roomy : most ≤ length area
  pub kept : take (length (take most m)) area ≡ take most m

module _ (m : List ℕ) where
  size : length (take most m) ≤ most
  size = omega (arith, length-take most m)

  -- the state is sound
  sound : unsound (state_after m) ≡ false
  sound = go (ltb most (length m)) refl
    where
      go : (b : Bool) → ltb most (length m) ≡ b → (ltb most (length (take most m)) || (b && ltb (length (take most m)) most)) ≡ false
      go true e =
          let h : most < length m = ltb-true most (length m) e in
          simp (le-ltb most (length (take most m)) size, le-ltb (length (take most m)) most (omega (arith, h, length-take most m)))
      go false e = simp (le-ltb most (length (take most m)) size)

  -- an octet more
  module _ (x : ℕ) where
    longer : length (m ++ x ∷ []) ≡ length m + 1
    longer = length-append m (x ∷ [])

    count_room : length m < most → length (take most (m ++ x ∷ [])) ≡ length (take most m) + 1
    count_room h = omega (arith, length-take most (m ++ x ∷ []), length-take most m, longer)

    count-full : most ≤ length m → length (take most (m ++ x ∷ [])) ≡ length (take most m)
    count-full h = omega (arith, length-take most (m ++ x ∷ []), length-take most m, longer)

    abbrev state : ℕ → Bool → State
    state n b = record { count = n; more = b }

    counted_is : counted (state_after m) ≡ state_after (m ++ x ∷ [])
    counted_is = go (ltb (length m) most) refl
      where
        go : (b : Bool) → ltb (length m) most ≡ b → counted (state_after m) ≡ state_after (m ++ x ∷ [])
        go true e =
            let h : length m < most = ltb-true (length m) most e in
            let fits : ltb (length (take most m)) most ≡ true = lt-ltb (length (take most m)) most (omega (arith, h, length-take most m)) in
            let no : ltb most (length m) ≡ false = le-ltb most (length m) (omega arith) in
            let none : ltb most (length (m ++ x ∷ [])) ≡ false = le-ltb most (length (m ++ x ∷ [])) (omega (arith, longer)) in
            simp fits (ap₂ state (sym (count_room h)) (no ∙ sym none))
        go false e =
            let h : most ≤ length m = ltb-false (length m) most e in
            let full : ltb (length (take most m)) most ≡ false = le-ltb (length (take most m)) most (omega (arith, length-take most m)) in
            let more : ltb most (length (m ++ x ∷ [])) ≡ true = lt-ltb most (length (m ++ x ∷ [])) (omega (arith, longer)) in
            simp full (ap₂ state (sym (count-full h)) (sym more))

    module _ (area : List ℕ) (k : Keeps m area) where
      keeps-room : length m < most → Keeps (m ++ x ∷ []) (laid area (length (take most m)) (x ∷ []))
      unfolding laid
      keeps-room h =
          let n : length (take most m) ≡ length m = omega (arith, length-take most m) in
          let l : length (take (length (take most m)) area ++ x ∷ []) ≡ length (take most m) + 1 =
          length-append (take (length (take most m)) area) (x ∷ []) ∙ ap (λ (i : ℕ). i + 1) (length-take-le _ area (omega (arith, size, k.roomy))) in
          record {
            roomy = omega (arith, k.roomy, length_laid area (length (take most m)) (x ∷ []) (omega (arith, h, n, k.roomy)));
            kept = ap (λ (i : ℕ). take i (laid area (length (take most m)) (x ∷ []))) (count_room h)
                ∙ take_at (take (length (take most m)) area ++ x ∷ []) (drop (length (take most m) + 1) area) (length (take most m) + 1) l
                ∙ ap (λ (t : List ℕ). t ++ x ∷ []) (k.kept ∙ take_all most m (omega arith))
                ∙ sym (take_all most (m ++ x ∷ []) (omega (arith, longer)));
          }

      keeps-full : most ≤ length m → Keeps (m ++ x ∷ []) area
      keeps-full h =
          record {
            roomy = k.roomy;
            kept = ap (λ (i : ℕ). take i area) (count-full h) ∙ k.kept ∙ sym (take-append-le most m (x ∷ []) h);
          }

      pub stored-length : length (stored x (state_after m) area) ≡ length area
      stored-length = go (ltb (length (take most m)) most) refl
        where
          go : (b : Bool) → ltb (length (take most m)) most ≡ b → length (cond b (laid area (length (take most m)) (x ∷ [])) area) ≡ length area
          go true e = length_laid area (length (take most m)) (x ∷ []) (omega (arith, ltb-true (length (take most m)) most e, k.roomy))
          go false e = refl

      pub keeps-octet : Keeps (m ++ x ∷ []) (stored x (state_after m) area)
      keeps-octet = go (ltb (length m) most) refl
        where
          go : (b : Bool) → ltb (length m) most ≡ b → Keeps (m ++ x ∷ []) (stored x (state_after m) area)
          go true e =
              let h : length m < most = ltb-true (length m) most e in
              let fits : ltb (length (take most m)) most ≡ true = lt-ltb (length (take most m)) most (omega (arith, h, length-take most m)) in
              simp fits (keeps-room h)
          go false e =
              let h : most ≤ length m = ltb-false (length m) most e in
              let full : ltb (length (take most m)) most ≡ false = le-ltb (length (take most m)) most (omega (arith, length-take most m)) in
              simp full (keeps-full h)

      pub next-octet : (p : Saying) (r : Record) (b : List ℕ)
          → next (Some x) (turn p (state_after m) area r b) ≡ turn waits (state_after (m ++ x ∷ [])) (stored x (state_after m) area) r b
      unfolding stream_of
      next-octet p r b =
          simp (le-ltb (length area) most k.roomy, sound) (ap (λ (s : State). turn waits s (stored x (state_after m) area) r b) counted_is)

  -- the end: the octets kept, and whether there were more, suffice
  module _ (area : List ℕ) (k : Keeps m area) where
    whole : ltb most (length m) ≡ false → heard (state_after m) area ≡ m
    whole e = simp e (k.kept ∙ take_all most m (ltb-false most (length m) e))

    cut : ltb most (length m) ≡ true → heard (state_after m) area ≡ take most m ++ 0 ∷ []
    cut e = simp e (ap (λ (l : List ℕ). l ++ 0 ∷ []) k.kept)

    same : take most (heard (state_after m) area) ≡ take most m
    same = go (ltb most (length m)) refl
      where
        go : (b : Bool) → ltb most (length m) ≡ b → take most (heard (state_after m) area) ≡ take most m
        go true e =
            let h : most < length m = ltb-true most (length m) e in
            let n : length (take most m) ≡ most = omega (arith, h, length-take most m) in
            ap (take most) (cut e) ∙ take_at (take most m) (0 ∷ []) most n
        go false e = ap (take most) (whole e)

    more : ltb most (length (heard (state_after m) area)) ≡ ltb most (length m)
    more = go (ltb most (length m)) refl
      where
        go : (b : Bool) → ltb most (length m) ≡ b → ltb most (length (heard (state_after m) area)) ≡ ltb most (length m)
        go true e =
            let h : most < length m = ltb-true most (length m) e in
            let n : length (take most m ++ 0 ∷ []) ≡ length (take most m) + 1 = length-append (take most m) (0 ∷ []) in
            ap (λ (l : List ℕ). ltb most (length l)) (cut e)
            ∙ lt-ltb most (length (take most m ++ 0 ∷ [])) (omega (arith, h, n, length-take most m)) ∙ sym e
        go false e = ap (λ (l : List ℕ). ltb most (length l)) (whole e)

    pub next-end : (p : Saying) (r : Record) (b : List ℕ) → next None (turn p (state_after m) area r b) ≡ ended_by m area r b
    unfolding stream_of
    next-end p r b =
        simp (le-ltb (length area) most k.roomy, sound)
        (ap₂ (λ (s : Step) (l : List ℕ). turn (answers s.said) empty area s.after l)
        (suffice_received (heard (state_after m) area) m same more r (length b)) (suffice_buffer (heard (state_after m) area) m same more r b))
