-- No second answer meets a promise of this crate.
-- Assumes nothing.
use mathlib.Core.Path.{◌≡◌, sym, ◌∙◌}
use mathlib.Core.List.{List}
use Prim.Native.Nat.{ℕ}
use Rattle.octets.specs.Laid.{laid, over}
use Rattle.trace_layout.specs.Layout.{trace_of, read_all}
use Rattle.pcap_fields.specs.declared.Order.{Order}
use Rattle.pcap_headers.specs.Headers.{capture_of}
use Rattle.pcap_lists.specs.Lists.{records_in}
use Rattle.pcap_contents.specs.Written.{written_of}

-- put_all: each octet of the memory lent
pub put_all_once : {W : Type 0} (one : W → List ℕ → List ℕ) (next : W → List ℕ → W) (w : W) (cs : List (List ℕ)) (out : List ℕ) (at : ℕ) {x y : List ℕ}
    → x ≡ laid out at (written_of one next w cs) → y ≡ laid out at (written_of one next w cs) → x ≡ y
put_all_once one next w cs out at p q = p ∙ sym q

-- put_capture, put_trace: each octet of the memory lent
pub put_capture_once : (s out : List ℕ) {x y : List ℕ} → x ≡ over (capture_of (read_all s).contents) out → y ≡ over (capture_of (read_all s).contents) out → x ≡ y
put_capture_once s out p q = p ∙ sym q

pub put_trace_once : (o : Order) (s out : List ℕ) {x y : List ℕ} → x ≡ over (trace_of (records_in o s).contents) out → y ≡ over (trace_of (records_in o s).contents) out → x ≡ y
put_trace_once o s out p q = p ∙ sym q
