-- No second answer meets a promise of this crate.
-- Assumes nothing.
use mathlib.Core.Path.{◌≡◌, sym, ◌∙◌}
use mathlib.Core.List.{List}
use Prim.Native.Nat.{ℕ}
use Rattle.std.specs.Prelude.{Option, Result}
use Rattle.sender_answers.specs.Answers.{said}
use Rattle.sender_answers.specs.declared.Refusal.{Refusal}
use Rattle.sender_answers.specs.declared.Written.{Written}
use Rattle.sent_words.specs.Sent.{number_of, written_of, ask_of}

-- number_of
pub number_of_once : (a : Result Written Refusal) {x y : ℕ} → x ≡ number_of (said a) → y ≡ number_of (said a) → x ≡ y
number_of_once a p q = p ∙ sym q

-- written_of
pub written_of_once : (a : Result Written Refusal) {x y : List ℕ} → x ≡ written_of (said a) → y ≡ written_of (said a) → x ≡ y
written_of_once a p q = p ∙ sym q

-- ask_of
pub ask_of_once : (n : ℕ) {x y : Option ℕ} → x ≡ ask_of n → y ≡ ask_of n → x ≡ y
ask_of_once n p q = p ∙ sym q
