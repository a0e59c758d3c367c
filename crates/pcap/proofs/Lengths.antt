-- How long a good trace or capture is, and how long the other is that is made of it.
-- Assumes nothing.
use mathlib.Core.Path.{◌≡◌, refl, sym, ap, ◌∙◌}
use mathlib.Core.List.{List, [], ◌∷◌}
use Prim.Native.Nat.{ℕ, ◌+◌, ◌*◌, ◌≤◌, ◌<◌}
use native.Mathlib.Omega.{arith}
use lib.ListN.{length, take, drop, get_or, length-append, length-drop}
use lib.Seq.{length-take-le}
use Rattle.rules.proofs.Tests.{never}
use Rattle.trace.specs.Trace as trace
use Rattle.trace_layout.specs.Layout.{Listing, trace_of, rest_from, read_all}
use Rattle.trace_layout.proofs.Rest.{rest_found, rest_ended, rest_refused, everywhere, rest_stops}
use Rattle.trace_layout.proofs.Inside.{trace_reading}
use Rattle.trace_layout.proofs.Whole.{trace_whole}
use Rattle.pcap_fields.specs.declared.Order.{Order}
use Rattle.pcap_records.specs.Records.{file_header, record_at}
use Rattle.pcap_headers.specs.Headers.{capture_record, capture_records, capture_of}
use Rattle.pcap_headers.proofs.Lengths.{length_record, length_records, length_capture}
use Rattle.pcap_lists.specs.Lists.{good, behind, judged, records_in}
use Rattle.pcap_records.proofs.Inside.{found_inside, ended_over, capture_reading}

-- a good list ended well, and has as many contents as it is said to have
pub record Ended (l : Listing) (n : ℕ) : Type 0 where
  pub stopped : l.stop ≡ trace.ended
  pub counted : length l.contents ≡ n

ended_well : (l : Listing) (n : ℕ) → ((place k next : ℕ) → l.stop ≡ trace.found place k next → ⊥) → (t : trace.Said) → l.stop ≡ t → behind (0 + length l.contents) t ≡ good n → Ended l n
ended_well l n f (trace.found place k next) e g = absurd (f place k next e)
ended_well l n f trace.ended e g = let c : 0 + length l.contents ≡ n = cc in record { stopped = e; counted = omega arith }
ended_well l n f (trace.refused q) e g = never (cc)

pub good_trace : (s : List ℕ) (n : ℕ) → judged (read_all s) ≡ good n → Ended (read_all s) n
good_trace s n g = ended_well (read_all s) n (rest_stops (trace.read_at s) s (trace_reading s) 0) (read_all s).stop refl g

pub good_capture : (o : Order) (s : List ℕ) (n : ℕ) → judged (records_in o s) ≡ good n → Ended (records_in o s) n
good_capture o s n g = ended_well (records_in o s) n (rest_stops (record_at o s) s (capture_reading o s) file_header) (records_in o s).stop refl g

-- a trace has four octets for each record at least
four_each : (cs : List (List ℕ)) → length cs * 4 ≤ length (trace_of cs)
unfolding trace_of
four_each [] = omega arith
four_each (c ∷ cs) = omega (arith, length-append c (trace_of cs), four_each cs)

-- the capture of a good trace
pub record Captured (s : List ℕ) (n : ℕ) : Type 0 where
  pub least : n * 4 ≤ length s
  pub octets : length (capture_of (read_all s).contents) ≡ 24 + length s + 12 * n

pub captured : (s : List ℕ) (n : ℕ) → ((k : ℕ) → get_or s k 0 < 256) → judged (read_all s) ≡ good n → Captured s n
captured s n o g =
    let e = good_trace s n g in
    let whole : length (trace_of (read_all s).contents) ≡ length s = ap length (trace_whole s o e.stopped) in
    let four = four_each (read_all s).contents in
    let all = length_capture (read_all s).contents in
    let k = e.counted in
    record { least = omega arith; octets = omega arith }

-- a good capture has no octets but its header's and its records'
module _ (o : Order) (s : List ℕ) where
  abbrev Filled : ℕ → Type 0
  Filled at = at ≤ length s → (rest_from (record_at o s) s at).stop ≡ trace.ended → at + length (capture_records (rest_from (record_at o s) s at).contents) ≡ length s

  found_filled : (at place n next : ℕ) → record_at o s at ≡ trace.found place n next → Filled next → Filled at
  unfolding capture_records
  found_filled at place n next e h b z =
      let w = found_inside o s at place n next e in
      let r = rest_found (record_at o s) s (capture_reading o s) at place n next e in
      let rest = h w.inside (sym (ap (λ (l : Listing). l.stop) r) ∙ z) in
      let l : length (take n (drop place s)) ≡ n = length-take-le n (drop place s) (omega (arith, length-drop place s)) in
      let all : length (capture_records (rest_from (record_at o s) s at).contents) ≡ 16 + n + length (capture_records (rest_from (record_at o s) s next).contents) =
      ap (λ (x : Listing). length (capture_records x.contents)) r
      ∙ length-append (capture_record (take n (drop place s))) (capture_records (rest_from (record_at o s) s next).contents)
      ∙ (omega (arith, l, length_record (take n (drop place s)))) in
      omega arith

  ended_filled : (at : ℕ) → record_at o s at ≡ trace.ended → Filled at
  unfolding capture_records
  ended_filled at e b z =
      let over = ended_over o s at e in
      let none : length (capture_records (rest_from (record_at o s) s at).contents) ≡ 0 =
      ap (λ (x : Listing). length (capture_records x.contents)) (rest_ended (record_at o s) s (capture_reading o s) at e) in
      omega arith

  refused_filled : (at q : ℕ) → record_at o s at ≡ trace.refused q → Filled at
  refused_filled at q e b z =
      let x : trace.refused q ≡ trace.ended = sym (ap (λ (l : Listing). l.stop) (rest_refused (record_at o s) s (capture_reading o s) at q e)) ∙ z in never (cc)

  -- and so the trace that is made of it has 12 less for each record
  pub uncaptured : (n : ℕ) → file_header ≤ length s → judged (records_in o s) ≡ good n → length (trace_of (records_in o s).contents) + 12 * n + 24 ≡ length s
  uncaptured n b g =
      let e = good_capture o s n g in
      let k = e.counted in
      let all = everywhere (record_at o s) s (capture_reading o s) Filled found_filled ended_filled refused_filled file_header b e.stopped in
      omega (arith, length_records (records_in o s).contents)
