-- No second answer meets a promise of this crate.
-- Assumes nothing.
use mathlib.Core.Path.{◌≡◌, sym, ◌∙◌}
use mathlib.Core.Bool.{Bool, true}
use Prim.Native.Nat.{ℕ}
use Rattle.std.specs.Prelude.{Option, SomeIff, Result}
use Rattle.verify_answers.specs.Answers.{said}
use Rattle.verify_answers.specs.declared.Refusal.{Refusal}
use Rattle.verify.specs.declared.Event.{Event}
use Rattle.words.specs.Words.{flag}
use Rattle.words.proofs.Laws.{some_once}
use Rattle.event_words.specs.Events.{is_event, event_of}

-- event_at
abbrev Read : ℕ → ℕ → Option Event → Type 0
Read n wait e = SomeIff e (is_event n ≡ true) (event_of n wait)

pub event_at_once : (n wait : ℕ) (x y : Option Event) → Read n wait x → Read n wait y → x ≡ y
event_at_once n wait = some_once _ _

-- what it tests, and what it then reads
pub is_event_once : (n : ℕ) {x y : Bool} → x ≡ is_event n → y ≡ is_event n → x ≡ y
is_event_once n p q = p ∙ sym q

pub event_of_once : (n wait : ℕ) {x y : Event} → x ≡ event_of n wait → y ≡ event_of n wait → x ≡ y
event_of_once n wait p q = p ∙ sym q

-- number_of
pub number_of_once : (a : Result Bool Refusal) {x y : ℕ} → x ≡ (said a).number → y ≡ (said a).number → x ≡ y
number_of_once a p q = p ∙ sym q

-- ordered_of
pub ordered_of_once : (a : Result Bool Refusal) {x y : ℕ} → x ≡ flag (said a).ordered → y ≡ flag (said a).ordered → x ≡ y
ordered_of_once a p q = p ∙ sym q
