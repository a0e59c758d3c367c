-- No second answer meets a promise of this crate.
-- Assumes nothing.
use mathlib.Core.Path.{◌≡◌, sym, ◌∙◌}
use mathlib.Core.List.{List}
use Prim.Native.Nat.{ℕ}
use Rattle.octets.specs.Laid.{laid}
use Rattle.trace_layout.specs.Layout.{record_of}
use Rattle.pcap_headers.specs.Headers.{file_header, capture_record}

-- put_file_header, put_capture_record, put_trace_record: each octet of the memory lent
pub put_file_header_once : (out : List ℕ) {x y : List ℕ} → x ≡ laid out 0 file_header → y ≡ laid out 0 file_header → x ≡ y
put_file_header_once out p q = p ∙ sym q

pub put_capture_record_once : (content out : List ℕ) (at : ℕ) {x y : List ℕ}
    → x ≡ laid out at (capture_record content) → y ≡ laid out at (capture_record content) → x ≡ y
put_capture_record_once content out at p q = p ∙ sym q

pub put_trace_record_once : (content out : List ℕ) (at : ℕ) {x y : List ℕ}
    → x ≡ laid out at (record_of content) → y ≡ laid out at (record_of content) → x ≡ y
put_trace_record_once content out at p q = p ∙ sym q
