-- The promise of the verification event, told in words.
-- Assumes nothing.
use mathlib.Core.Path.{◌≡◌, ap, ◌∙◌}
use mathlib.Core.List.{List}
use Prim.Native.Nat.{ℕ}
use Rattle.verify_answers.specs.Answers.{Told, said, told}
use Rattle.verify_answers.specs.declared.Stepped.{Stepped}
use Rattle.words.specs.Words.{flag}
use Rattle.verify_words.specs.Link.{link_words}
use Rattle.seatport.specs.Verifying.{Taken}
use Rattle.seatport.specs.Verifying as S

pub taken_words : {t : Told} (s : Stepped) {number ordered : ℕ} {link : List ℕ} → told s ≡ t
    → number ≡ (said s.answer).number → ordered ≡ flag (said s.answer).ordered → link ≡ link_words s.after → Taken (S.told t) number ordered link
taken_words s h n o a =
    record {
      answer = n ∙ ap (λ (t : Told). t.said.number) h;
      value = o ∙ ap (λ (t : Told). flag t.said.ordered) h;
      after = a ∙ ap (λ (t : Told). link_words t.after) h;
    }
