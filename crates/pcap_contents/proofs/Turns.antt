-- Contents written one by one: what is left, laid over the memory as it is now, makes the memory asked for.
-- Assumes nothing.
use mathlib.Core.Path.{◌≡◌, refl, sym, ap, ap₂, ◌∙◌}
use mathlib.Core.List.{List, [], ◌∷◌, ◌++◌}
use Prim.Native.Nat.{ℕ, ◌+◌, ◌-◌, ◌≤◌}
use native.Mathlib.Omega.{arith}
use lib.ListN.{length, take, drop, length-append, length-drop}
use lib.Seq.{length-take-le}
use Rattle.octets.specs.Laid.{laid}
use Rattle.octets.proofs.Laid.{laid_laid, laid_none}
use Rattle.trace.specs.Trace.{Said, limit, found, ended, refused}
use Rattle.trace_layout.specs.Layout.{Headed, Listing, record_of, trace_of, rest_from}
use Rattle.trace_layout.proofs.Rest.{reading_of, rest_found, rest_ended, rest_refused}
use Rattle.pcap_headers.specs.Headers.{capture_record, capture_records}
use Rattle.pcap_contents.specs.Written.{written_of}

-- what a writer that stays the same lays out
module _ {W : Type 0} (w : W) where
  pub captured_records : (cs : List (List ℕ)) → written_of (λ _. capture_record) (λ v _. v) w cs ≡ capture_records cs
  unfolding written_of capture_records
  captured_records [] = refl
  captured_records (c ∷ cs) = ap (λ (l : List ℕ). capture_record c ++ l) (captured_records cs)

  pub traced_records : (cs : List (List ℕ)) → written_of (λ _. record_of) (λ v _. v) w cs ≡ trace_of cs
  unfolding written_of trace_of
  traced_records [] = refl
  traced_records (c ∷ cs) = ap (λ (l : List ℕ). record_of c ++ l) (traced_records cs)

  pub captured_room : (cs : List (List ℕ)) (n : ℕ) → 24 + length (capture_records cs) ≤ n
      → 24 + length (written_of (λ _. capture_record) (λ v _. v) w cs) ≤ n
  captured_room cs n h = let e = ap length (captured_records cs) in omega arith

  pub traced_room : (cs : List (List ℕ)) (n : ℕ) → length (trace_of cs) ≤ n → 0 + length (written_of (λ _. record_of) (λ v _. v) w cs) ≤ n
  traced_room cs n h = let e = ap length (traced_records cs) in omega arith

module _ (read : ℕ → Said) (s : List ℕ) (y : Headed read s) {W : Type 0} (one : W → List ℕ → List ℕ) (onward : W → List ℕ → W) where
  -- what is to be written of the contents from a place on
  abbrev pub left_from : W → ℕ → List ℕ
  left_from w from = written_of one onward w (rest_from read s from).contents

  -- where no record is found, nothing is left
  pub ends : (w : W) (xs : List ℕ) (from at : ℕ) → read from ≡ ended → laid xs at (left_from w from) ≡ xs
  unfolding written_of
  ends w xs from at e = ap (λ (l : Listing). laid xs at (written_of one onward w l.contents)) (rest_ended read s (reading_of y) from e) ∙ laid_none xs at

  pub stops : (w : W) (xs : List ℕ) (from at q : ℕ) → read from ≡ refused q → laid xs at (left_from w from) ≡ xs
  unfolding written_of
  stops w xs from at q e = ap (λ (l : Listing). laid xs at (written_of one onward w l.contents)) (rest_refused read s (reading_of y) from q e) ∙ laid_none xs at

  -- a record that is found
  module _ (from place n next : ℕ) (e : read from ≡ found place n next) where
    abbrev content : List ℕ
    content = take (next - place) (drop place s)

    count : next - place ≡ n
    count = omega (arith, y.behind from place n next e)

    pub content_length : length content ≡ n
    content_length =
        ap (λ (k : ℕ). length (take k (drop place s))) count
        ∙ length-take-le n (drop place s) (omega (arith, y.behind from place n next e, y.inside from place n next e, length-drop place s))

    pub within : length content ≤ limit
    within = omega (arith, content_length, y.within from place n next e)

    module _ (w : W) where
      -- its content stands first
      first : left_from w from ≡ one w content ++ left_from (onward w content) next
      unfolding written_of
      first =
          ap (λ (l : Listing). written_of one onward w l.contents) (rest_found read s (reading_of y) from place n next e)
          ∙ ap (λ (k : ℕ). one w (take k (drop place s)) ++ left_from (onward w (take k (drop place s))) next) (sym count)

      pub first_length : length (left_from w from) ≡ length (one w content) + length (left_from (onward w content) next)
      first_length = ap length first ∙ length-append (one w content) (left_from (onward w content) next)

      -- a turn
      pub turn : (xs xs' : List ℕ) (w' : W) (at k : ℕ) → w' ≡ onward w content → xs' ≡ laid xs at (one w content) → k ≡ at + length (one w content)
          → at + length (left_from w from) ≤ length xs → laid xs' k (left_from w' next) ≡ laid xs at (left_from w from)
      turn xs xs' w' at k v put h room =
          ap₂ (λ (l : List ℕ) (x : W). laid l k (left_from x next)) put v
          ∙ laid_laid xs (one w content) (left_from (onward w content) next) at k h (omega (arith, first_length))
          ∙ ap (laid xs at) (sym first)
