-- Where a record of a capture that is found lies.
-- Assumes nothing.
use mathlib.Core.Path.{◌≡◌}
use mathlib.Core.Bool.{not}
use mathlib.Core.List.{List}
use Prim.Native.Nat.{ℕ, ◌+◌, ◌≤◌}
use native.Mathlib.Omega.{arith}
use borrow.Author.Tests.{ltb-false, eqb-true}
use lib.Dec.{ltb, eqb}
use lib.ListN.{length}
use Rattle.trace.specs.Trace.{limit, found, ended, left}
use Rattle.trace_layout.proofs.Inside.{passed, over}
use Rattle.trace_layout.specs.Layout.{Reading, Headed}
use Rattle.trace_layout.proofs.Rest.{reading_of}
use Rattle.pcap_fields.specs.declared.Order.{Order}
use Rattle.pcap_records.specs.Records.{header, stored_at, original_at, record_at}
use Rattle.pcap_records.proofs.Laws.{read_end}

-- its content right behind the header, the next record right behind the content, all of it in the capture; and what its header says
pub record Inside (o : Order) (s : List ℕ) (at place n next : ℕ) : Type 0 where
  pub place_behind : place ≡ at + header
  pub next_behind : next ≡ place + n
  pub inside : next ≤ length s
  pub within : n ≤ limit
  pub stored : stored_at o s at ≡ n

pub found_inside : (o : Order) (s : List ℕ) (at place n next : ℕ) → record_at o s at ≡ found place n next → Inside o s at place n next
unfolding record_at
found_inside o s at place n next p =
    let w = passed (eqb (left s at) 0) (ltb (left s at) header) (ltb limit (stored_at o s at)) (not (eqb (stored_at o s at) (original_at o s at))) (ltb (left s (at + header)) (stored_at o s at)) 74 75 76 77 place n next _ p in
    let f : found (at + header) (stored_at o s at) (at + header + stored_at o s at) ≡ found place n next = w.1.1.1.1 in
    let a : at + header ≡ place = cc in
    let b : stored_at o s at ≡ n = cc in
    let c : at + header + stored_at o s at ≡ next = cc in
    record { place_behind = omega arith; next_behind = omega arith; inside = omega (arith, ltb-false); within = omega (arith, ltb-false); stored = b }

-- the end is said at the end only
pub ended_over : (o : Order) (s : List ℕ) (at : ℕ) → record_at o s at ≡ ended → length s ≤ at
unfolding record_at
ended_over o s at p =
    let e = over (eqb (left s at) 0) (ltb (left s at) header) (ltb limit (stored_at o s at)) (not (eqb (stored_at o s at) (original_at o s at))) (ltb (left s (at + header)) (stored_at o s at)) 74 75 76 77 (at + header) (stored_at o s at) (at + header + stored_at o s at) p in
    let z : left s at ≡ 0 = eqb-true (left s at) 0 e in
    omega arith

pub capture_headed : (o : Order) (s : List ℕ) → Headed (record_at o s) s
capture_headed o s =
    record {
      ends = λ at h. read_end o s at h;
      grows = λ at place n next e. let w = found_inside o s at place n next e in omega arith;
      least = λ at place n next e. let w = found_inside o s at place n next e in omega arith;
      behind = λ at place n next e. (found_inside o s at place n next e).next_behind;
      inside = λ at place n next e. (found_inside o s at place n next e).inside;
      within = λ at place n next e. (found_inside o s at place n next e).within;
    }

pub capture_reading : (o : Order) (s : List ℕ) → Reading (record_at o s) s
capture_reading o s = reading_of (capture_headed o s)
