-- What reading a record of a trace says fits words of 32 bits, and its own promise, told in words.
-- Assumes nothing.
use mathlib.Core.Path.{◌≡◌, refl, ap, ◌∙◌}
use mathlib.Core.List.{List}
use Prim.Native.Nat.{ℕ}
use native.Mathlib.Omega.{arith}
use Rattle.trace.specs.Trace.{Said, found, ended, refused, said, read_at}
use Rattle.std.specs.Prelude.{Option, Result}
use Rattle.trace.specs.declared.Refusal.{Refusal}
use Rattle.trace.specs.declared.Span.{Span}
use Rattle.trace_layout.proofs.Inside.{found_inside}
use Rattle.trace_words.specs.Content.{number_of, content_of, Short}
use Rattle.seatport.specs.Tracing.{Traced}

pub read_short : (s : List ℕ) → Short (read_at s 0)
read_short s = by (read_at s 0) refl
  where
    by : (w : Said) → read_at s 0 ≡ w → Short w
    by (found place n next) e =
        let i = found_inside s 0 place n next e in
        (omega (arith, i.behind), (omega (arith, i.within), omega (arith, i.behind, i.next_behind, i.within)))
    by ended e = tt
    by (refused k) e = tt

pub traced_words : {s : Said} (r : Result (Option Span) Refusal) {number : ℕ} {content : List ℕ} → said r ≡ s → number ≡ number_of (said r) → content ≡ content_of (said r)
    → Traced s number content
traced_words r h n c = record { answer = n ∙ ap number_of h; words = c ∙ ap content_of h }
