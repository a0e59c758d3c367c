-- Contents written one by one as they are shown: what is left, laid over the memory as it is now, makes the memory asked for.
-- Assumes nothing.
use mathlib.Core.Path.{◌≡◌, refl, sym, ap, ap₂, ◌∙◌}
use mathlib.Core.List.{List, [], ◌++◌}
use Prim.Native.Nat.{ℕ, ◌+◌, ◌-◌, ◌≤◌}
use native.Mathlib.Omega.{arith}
use lib.ListN.{length, take, drop, length-append, length-drop}
use lib.Seq.{length-take-le}
use Rattle.octets.specs.Laid.{laid}
use Rattle.octets.proofs.Laid.{laid_laid, laid_none}
use Rattle.trace.specs.Trace.{found, ended, refused, read_at}
use Rattle.trace_layout.specs.Layout.{Listing, rest_from}
use Rattle.trace_layout.proofs.Rest.{rest_found, rest_ended, rest_refused}
use Rattle.trace_layout.proofs.Inside.{Inside, found_inside, trace_reading}
use Rattle.pcap_headers.specs.Headers.{capture_record, capture_records}
use Rattle.pcap_headers.proofs.Lengths.{length_record}
use Rattle.receiver_record.specs.declared.Record.{Record}
use Rattle.receive.specs.Receive.{received_of}
use Rattle.eyes_records.specs.Shown.{shown_of, Shows}
use Rattle.eyes_records.proofs.Laws.{shown_length}
use Rattle.eyes.specs.Eyes.{buffer_length, shown_from}

-- contents as they are shown by a receiver with the record r
abbrev pub shown_by : Record → List (List ℕ) → List ℕ
shown_by r cs = capture_records (shown_from r cs)

none_shown : (r : Record) → shown_by r [] ≡ []
unfolding capture_records shown_from
none_shown r = refl

module _ (s : List ℕ) where
  -- what is to be written of those from a place on
  abbrev pub remaining : Record → ℕ → List ℕ
  remaining r from = shown_by r (rest_from (read_at s) s from).contents

  -- where no record is found, nothing is left
  pub ends : (r : Record) (xs : List ℕ) (from at : ℕ) → read_at s from ≡ ended → laid xs at (remaining r from) ≡ xs
  ends r xs from at e =
      ap (λ (l : Listing). laid xs at (shown_by r l.contents)) (rest_ended (read_at s) s (trace_reading s) from e) ∙ ap (laid xs at) (none_shown r) ∙ laid_none xs at

  pub stops : (r : Record) (xs : List ℕ) (from at q : ℕ) → read_at s from ≡ refused q → laid xs at (remaining r from) ≡ xs
  stops r xs from at q e =
      ap (λ (l : Listing). laid xs at (shown_by r l.contents)) (rest_refused (read_at s) s (trace_reading s) from q e) ∙ ap (laid xs at) (none_shown r) ∙ laid_none xs at

  module _ (from place n next : ℕ) (e : read_at s from ≡ found place n next) where
    -- the record that is found: its content, and where it lies
    abbrev content : List ℕ
    content = take n (drop place s)

    pub lies : Inside s from place n next
    lies = found_inside s from place n next e

    part : take (next - place) (drop place s) ≡ content
    part = let w = lies in ap (λ (k : ℕ). take k (drop place s)) (let z : next - place ≡ n = omega (arith, w.next_behind) in z)

    pub part_length : length (take (next - place) (drop place s)) ≡ n
    part_length = let w = lies in ap length part ∙ length-take-le n (drop place s) (omega (arith, w.inside, w.next_behind, length-drop place s))

    module _ (r : Record) where
      abbrev after : Record
      after = (received_of content r buffer_length).after

      -- it stands first
      first : remaining r from ≡ capture_record (shown_of content r buffer_length) ++ remaining after next
      unfolding capture_records shown_from
      first = ap (λ (l : Listing). capture_records (shown_from r l.contents)) (rest_found (read_at s) s (trace_reading s) from place n next e)

      size : length (capture_record (shown_of content r buffer_length)) ≡ 16 + n
      size = length_record (shown_of content r buffer_length) ∙ ap (λ (k : ℕ). 16 + k) (shown_length content r buffer_length ∙ sym (ap length part) ∙ part_length)

      pub left_over : length (remaining r from) ≡ 16 + n + length (remaining after next)
      left_over = ap length first ∙ length-append (capture_record (shown_of content r buffer_length)) (remaining after next) ∙ ap (λ (k : ℕ). k + length (remaining after next)) size

      -- a turn: the record is laid
      module _ {b b' xs xs' : List ℕ} {at : ℕ} {r' : Record} (whole : length b ≡ buffer_length) (shows : Shows (take (next - place) (drop place s)) r b xs at r' b' xs')
          (room : at + length (remaining r from) ≤ length xs) where
        pub after_is : r' ≡ after
        after_is = shows.after_is ∙ ap₂ (λ (l : List ℕ) (k : ℕ). (received_of l r k).after) part whole

        put : xs' ≡ laid xs at (capture_record (shown_of content r buffer_length))
        put = shows.octets ∙ ap₂ (λ (l : List ℕ) (k : ℕ). laid xs at (capture_record (shown_of l r k))) part whole

        pub turn : (k : ℕ) → k ≡ at + (16 + n) → laid xs' k (remaining r' next) ≡ laid xs at (remaining r from)
        turn k h =
            ap₂ (λ (l : List ℕ) (q : Record). laid l k (remaining q next)) put after_is
            ∙ laid_laid xs _ _ at k (omega (arith, h, size)) (omega (arith, h, left_over)) ∙ ap (laid xs at) (sym first)
