-- No second answer meets a promise of this crate.
-- Assumes nothing.
use mathlib.Core.Path.{◌≡◌, sym, ◌∙◌}
use mathlib.Core.List.{List}
use Prim.Native.Nat.{ℕ}
use Rattle.trace.specs.Trace.{said}
use Rattle.std.specs.Prelude.{Option, Result}
use Rattle.trace.specs.declared.Refusal.{Refusal}
use Rattle.trace.specs.declared.Span.{Span}
use Rattle.trace_words.specs.Content.{number_of, content_of}

-- number_of
pub number_of_once : (r : Result (Option Span) Refusal) {x y : ℕ} → x ≡ number_of (said r) → y ≡ number_of (said r) → x ≡ y
number_of_once r p q = p ∙ sym q

-- content_of
pub content_of_once : (r : Result (Option Span) Refusal) {x y : List ℕ} → x ≡ content_of (said r) → y ≡ content_of (said r) → x ≡ y
content_of_once r p q = p ∙ sym q
