-- What a sound state tells of the octets since the last end: how many are kept, and what the head of a run with more says.
-- Assumes nothing.
use mathlib.Core.Path.{◌≡◌, refl, sym, ap, ◌∙◌}
use mathlib.Core.Bool.{Bool, true, false, ◌&&◌, false≢true}
use mathlib.Core.List.{List, [], ◌∷◌, ◌++◌}
use Prim.Native.Nat.{ℕ, ◌-◌, ◌≤◌, ◌<◌}
use native.Mathlib.Nat.{sub-zero}
use native.Mathlib.Omega.{arith}
use borrow.Author.Tests.{ltb-false}
use lib.Dec.{ltb}
use lib.ListN.{length, take, length-append}
use lib.Seq.{length-take-le, take_at}
use Rattle.rules.proofs.Tests.{neither, both}
use Rattle.heads.specs.Head.{Reading, known, refused, head_of, is_known}
use Rattle.head_laws.specs.Beyond.{beyond}
use Rattle.head_laws.proofs.Beyond.{head_beyond}
use Rattle.receiver_answers.specs.declared.Refusal.{Refusal}
use Rattle.receiver_answers.specs.declared.Answer.TheVariants.{Refused}
use Rattle.receiver_answers.specs.Answers.{Said}
use Rattle.receiver_answers.specs.Answers as A
use Rattle.receiver_record.specs.declared.Record.{Record}
use Rattle.outcomes.specs.declared.Received.{Received}
use Rattle.receive.specs.Receive.{Answered, received_of, buffer_of}
use Rattle.stream.specs.declared.State.{State}
use Rattle.stream.specs.Stream.{most, unsound, heard, runs_over, long_of}
use Rattle.stream.proofs.Laws.{long_received, long_buffer, alike_received, alike_buffer}

module _ (s : State) (sound : unsound s ≡ false) where
  pub at_most : s.count ≤ most
  at_most = ltb-false _ _ (neither (ltb most s.count) (s.more && ltb s.count most) sound).0

  full : s.more ≡ true → s.count ≡ most
  full e =
      let h : most ≤ s.count = ltb-false _ _ (ap (λ (b : Bool). b && ltb s.count most) (sym e) ∙ (neither (ltb most s.count) (s.more && ltb s.count most) sound).1) in
      omega (arith, at_most, h)

  module _ (area : List ℕ) (fits : most ≤ length area) where
    abbrev kept : List ℕ
    kept = take s.count area

    -- the head of a run with more, by the octets kept
    module _ (e : s.more ≡ true) where
      kept-length : length kept ≡ most
      kept-length = length-take-le s.count area (omega (arith, at_most)) ∙ full e

      head-is : head_of (heard s area) ≡ beyond (head_of kept)
      head-is =
          let long : most < length (kept ++ 0 ∷ []) = omega (arith, kept-length, length-append kept (0 ∷ [])) in
          rw e (head_beyond (kept ++ 0 ∷ []) long ∙ ap (λ (l : List ℕ). beyond (head_of l)) (take_at kept (0 ∷ []) most kept-length))

    pub over-long : runs_over s.more kept ≡ true → head_of (heard s area) ≡ refused 13 0
    over-long e = let t = both s.more (is_known (head_of kept)) e in head-is t.0 ∙ go (head_of kept) t.1
      where
        go : (h : Reading) → is_known h ≡ true → beyond h ≡ refused 13 0
        go (known kind place) q = refl
        go (refused number detail) q = absurd (false≢true q)

    -- what the octets kept are answered, where the mFrame does not run over
    module _ (e : runs_over s.more kept ≡ false) where
      abbrev Alike : Type 0
      Alike = ((r : Record) (room : ℕ) → received_of kept r room ≡ received_of (heard s area) r room)
          × ((r : Record) (b : List ℕ) → buffer_of kept r b ≡ buffer_of (heard s area) r b)

      by_head_lem : s.more ≡ true → (h : Reading) → head_of kept ≡ h → (is_known h ≡ false) → Alike
      by_head_lem q (known kind place) w z = absurd (false≢true (sym z))
      by_head_lem q (refused number detail) w z =
          let other : head_of (heard s area) ≡ refused number detail = head-is q ∙ ap beyond w in
          (alike_received kept (heard s area) w other, alike_buffer kept (heard s area) w other)

      pub kept-alike : Alike
      kept-alike = go s.more refl
        where
          go : (b : Bool) → s.more ≡ b → Alike
          go true q = by_head_lem q (head_of kept) refl (ap (λ (b : Bool). b && is_known (head_of kept)) (sym q) ∙ e)
          go false q = rw q ((λ r room. refl), (λ r b. refl))

    -- the end of an mFrame that runs over, and of one that does not; the code's part of the area begins at place 0
    pub ended-long : (r : Record) (b : List ℕ) {why : Refusal} → runs_over s.more (take (s.count - 0) area) ≡ true → A.refused why ≡ long_of r (length b)
        → Answered (heard s area) r b (record { answer = Refused why; after = r }) b
    ended-long r b e w =
        let l = over-long (rw (← sub-zero s.count) e) in
        record {
          step = ap (λ (x : Said). record { said = x; after = r }) w ∙ sym (long_received (heard s area) l r (length b));
          octets = sym (long_buffer (heard s area) l r b);
        }

    pub ended : (r : Record) {b b' : List ℕ} {got : Received} → runs_over s.more (take (s.count - 0) area) ≡ false
        → Answered (take (s.count - 0) area) r b got b' → Answered (heard s area) r b got b'
    ended r {b} {b'} {got} e w =
        let a : Answered kept r b got b' = rw (← sub-zero s.count) w in
        let same = kept-alike (rw (← sub-zero s.count) e) in
        record { step = a.step ∙ same.0 r (length b); octets = a.octets ∙ same.1 r b }
