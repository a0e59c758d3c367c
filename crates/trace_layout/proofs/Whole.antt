-- A trace that is read to its end is its contents laid out, and nothing else.
-- Assumes nothing.
use mathlib.Core.Path.{◌≡◌, sym, ap, ap₂, ◌∙◌}
use mathlib.Core.List.{List, ◌∷◌, ◌++◌}
use Prim.Native.Nat.{ℕ, ◌+◌, ◌/◌, ◌%◌, ◌≤◌, ◌<◌}
use native.Mathlib.Omega.{arith}
use lib.ListN.{length, take, drop, get_or, length-drop, take-append-drop, drop_of_length-le}
use lib.Seq.{drop-drop, length-take-le}
use Rattle.rules.proofs.Tests.{never}
use Rattle.fours.proofs.Words.{four_of}
use Rattle.trace.specs.Trace.{kind, found, ended, refused, little_endian, read_at}
use Rattle.trace_layout.specs.Layout.{record_of, trace_of, Listing, rest_from, read_all}
use Rattle.trace_layout.proofs.Inside.{found_inside, ended_over, trace_reading}
use Rattle.trace_layout.proofs.Rest.{rest_found, rest_ended, rest_refused, everywhere}

-- two octets that make a number are its octets
two_of : (a b n : ℕ) → a < 256 → b < 256 → little_endian a b ≡ n → (a ≡ n % 256) × (b ≡ n / 256 % 256)
two_of a b n ha hb e = (omega arith, omega arith)

module _ (s : List ℕ) (o : (k : ℕ) → get_or s k 0 < 256) where
  -- a record that is found, and what stands behind it
  record_whole : (at place n next : ℕ) → read_at s at ≡ found place n next
      → drop at s ≡ record_of (take n (drop place s)) ++ drop next s
  record_whole at place n next e =
      let w = found_inside s at place n next e in
      let room : at + 4 ≤ length s = omega arith in
      let long : length (take n (drop place s)) ≡ n = length-take-le n (drop place s) (omega (arith, length-drop place s)) in
      let l = two_of (get_or s at 0) (get_or s (at + 1) 0) n (o at) (o (at + 1)) w.stored in
      let k = two_of (get_or s (at + 2) 0) (get_or s (at + 3) 0) kind (o (at + 2)) (o (at + 3)) w.of_kind in
      let content : drop 4 (drop at s) ≡ take n (drop place s) ++ drop next s =
      drop-drop 4 at s ∙ ap (λ (i : ℕ). drop i s) (sym w.behind) ∙ sym (take-append-drop n (drop place s))
      ∙ ap (λ (x : List ℕ). take n (drop place s) ++ x) (drop-drop n place s ∙ ap (λ (i : ℕ). drop i s) (sym w.next_behind)) in
      sym (take-append-drop 4 (drop at s)) ∙ ap₂ ◌++◌ (four_of s at room) content
      ∙ ap₂ (λ (x y : ℕ). x ∷ y ∷ get_or s (at + 2) 0 ∷ get_or s (at + 3) 0 ∷ (take n (drop place s) ++ drop next s)) (l.0 ∙ ap (λ (i : ℕ). i % 256) (sym long)) (l.1 ∙ ap (λ (i : ℕ). i / 256 % 256) (sym long))
      ∙ ap₂ (λ (x y : ℕ). length (take n (drop place s)) % 256 ∷ length (take n (drop place s)) / 256 % 256 ∷ x ∷ y ∷ (take n (drop place s) ++ drop next s)) k.0 k.1

  -- from a place on
  abbrev Whole : ℕ → Type 0
  Whole at = (rest_from (read_at s) s at).stop ≡ ended → trace_of (rest_from (read_at s) s at).contents ≡ drop at s

  found_whole : (at place n next : ℕ) → read_at s at ≡ found place n next → Whole next → Whole at
  unfolding trace_of
  found_whole at place n next e h z =
      let r = rest_found (read_at s) s (trace_reading s) at place n next e in
      ap (λ (l : Listing). trace_of l.contents) r
      ∙ ap (λ (x : List ℕ). record_of (take n (drop place s)) ++ x) (h (sym (ap (λ (l : Listing). l.stop) r) ∙ z))
      ∙ sym (record_whole at place n next e)

  ended_whole : (at : ℕ) → read_at s at ≡ ended → Whole at
  unfolding trace_of
  ended_whole at e z =
      ap (λ (l : Listing). trace_of l.contents) (rest_ended (read_at s) s (trace_reading s) at e) ∙ sym (drop_of_length-le s (ended_over s at e))

  refused_whole : (at q : ℕ) → read_at s at ≡ refused q → Whole at
  refused_whole at q e z =
      let x : refused q ≡ ended = sym (ap (λ (l : Listing). l.stop) (rest_refused (read_at s) s (trace_reading s) at q e)) ∙ z in never (cc)

  -- all of a trace
  pub trace_whole : (read_all s).stop ≡ ended → trace_of (read_all s).contents ≡ s
  trace_whole = everywhere (read_at s) s (trace_reading s) Whole found_whole ended_whole refused_whole 0
