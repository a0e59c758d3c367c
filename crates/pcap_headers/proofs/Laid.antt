-- A capture laid at the front of memory: its header, and its records behind that.
-- Assumes nothing.
use mathlib.Core.Path.{◌≡◌, ap, ◌∙◌}
use mathlib.Core.List.{List}
use Prim.Native.Nat.{ℕ, ◌+◌, ◌≤◌}
use native.Mathlib.Omega.{arith}
use lib.ListN.{length, length-append}
use Rattle.octets.specs.Laid.{laid, over}
use Rattle.octets.proofs.Laid.{laid_laid, laid_front}
use Rattle.pcap_headers.specs.Headers.{file_header, capture_records, capture_of}
use Rattle.pcap_headers.proofs.Lengths.{length_file_header}

module _ (cs : List (List ℕ)) (out₀ : List ℕ) where
  -- the room for a capture is one for its header and its records
  pub records_room : length (capture_of cs) ≤ length out₀ → 24 + length (capture_records cs) ≤ length out₀
  records_room h = omega (arith, length_file_header, length-append file_header (capture_records cs))

  -- and both are laid one behind the other
  pub header_first : (out : List ℕ) → out ≡ laid out₀ 0 file_header → 24 + length (capture_records cs) ≤ length out₀
      → laid out 24 (capture_records cs) ≡ over (capture_of cs) out₀
  header_first out e h =
      ap (λ (xs : List ℕ). laid xs 24 (capture_records cs)) e
      ∙ laid_laid out₀ file_header (capture_records cs) 0 24 (omega (arith, length_file_header)) h ∙ laid_front out₀ _
