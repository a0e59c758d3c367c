-- How long a capture is: 24 octets, and 12 more for each record than in a trace.
-- Assumes nothing.
use mathlib.Core.Path.{◌≡◌, refl}
use mathlib.Core.List.{List, [], ◌∷◌}
use Prim.Native.Nat.{ℕ, ◌+◌, ◌*◌}
use native.Mathlib.Omega.{arith}
use lib.ListN.{length, length-append}
use Rattle.fours.specs.Word.{octets_of}
use Rattle.trace_layout.specs.Layout.{trace_of}
use Rattle.pcap_headers.specs.Headers.{file_header, capture_record, capture_records, capture_of}

pub length_file_header : length file_header ≡ 24
unfolding octets_of
length_file_header = refl

pub length_record : (c : List ℕ) → length (capture_record c) ≡ 16 + length c
unfolding octets_of
length_record c = omega arith

pub length_records : (cs : List (List ℕ)) → length (capture_records cs) ≡ length (trace_of cs) + 12 * length cs
unfolding capture_records trace_of
length_records [] = refl
length_records (c ∷ cs) =
    omega (arith, length_record c, length-append (capture_record c) (capture_records cs), length-append c (trace_of cs), length_records cs)

pub length_capture : (cs : List (List ℕ)) → length (capture_of cs) ≡ 24 + length (trace_of cs) + 12 * length cs
length_capture cs = omega (arith, length-append file_header (capture_records cs), length_file_header, length_records cs)
