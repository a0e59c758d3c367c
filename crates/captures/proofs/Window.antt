-- What a program stands on that reads a file through a window: 1,616 octets behind a place, the longest record with its header, decide what is
-- said of the record there, and of the header at the front; what stands behind them changes nothing.
-- Assumes nothing.
use mathlib.Core.Path.{◌≡◌, refl, sym, ap, ap₂, ◌∙◌}
use mathlib.Core.Bool.{Bool, true, false, cond, not, ◌&&◌}
use mathlib.Core.List.{List}
use Prim.Native.Nat.{ℕ, ◌+◌, ◌≤◌, ◌<◌}
use native.Mathlib.Omega.{arith}
use borrow.Author.Tests.{ltb-true, ltb-false, eqb-true, eqb-false}
use lib.Dec.{ltb, eqb}
use lib.ListN.{length, take, get_or}
use lib.Seq.{get_or-take, length-take-le}
use Rattle.fours.specs.Word.{word_of}
use Rattle.trace.specs.Trace as trace
use Rattle.trace.proofs.Laws as trace-laws
use Rattle.pcap_fields.specs.Fields.{half_in, word_in}
use Rattle.pcap_fields.specs.declared.Order.{Order}
use Rattle.pcap_fields.specs.declared.Order.TheVariants.{Little, Big}
use Rattle.pcap_records.specs.Records.{magic, major, minor, link_type, Opening, opens, shut, fields_of, open_of, stored_at, original_at, record_at}
use Rattle.pcap_records.proofs.Laws as capture-laws

-- the front of a file, up to so many octets behind a place
module _ (s : List ℕ) (n at : ℕ) (h : at + 1616 ≤ n) (k : n ≤ length s) where
  abbrev front : List ℕ
  front = take n s

  front_length : length front ≡ n
  front_length = length-take-le n s k

  octet : (i : ℕ) → i < n → get_or front i 0 ≡ get_or s i 0
  octet i b = get_or-take n s i 0 b

  -- a trace's record
  same_length : trace.length_at front at ≡ trace.length_at s at
  same_length = ap₂ trace.little_endian (octet at (omega arith)) (octet (at + 1) (omega arith))

  same_kind : trace.kind_at front at ≡ trace.kind_at s at
  same_kind = ap₂ trace.little_endian (octet (at + 2) (omega arith)) (octet (at + 3) (omega arith))

  pub trace_window : trace.read_at front at ≡ trace.read_at s at
  trace_window = by (ltb trace.limit (trace.length_at s at)) (eqb (trace.kind_at s at) trace.kind) refl refl where
    by : (b d : Bool) → ltb trace.limit (trace.length_at s at) ≡ b → eqb (trace.kind_at s at) trace.kind ≡ d → trace.read_at front at ≡ trace.read_at s at
    by true d e f =
        let l = front_length in
        let over : trace.limit < trace.length_at s at = ltb-true trace.limit (trace.length_at s at) e in
        trace-laws.length_over front at (omega arith) (omega (arith, same_length)) ∙ sym (trace-laws.length_over s at (omega arith) over)
    by false false e f =
        let l = front_length in
        let within : trace.length_at s at ≤ trace.limit = ltb-false trace.limit (trace.length_at s at) e in
        let unlike : trace.kind_at s at ≡ trace.kind → ⊥ = eqb-false (trace.kind_at s at) trace.kind f in
        trace-laws.kind_other front at (omega arith) (omega (arith, same_length)) (λ z. unlike (sym same_kind ∙ z)) ∙ sym (trace-laws.kind_other s at (omega arith) within unlike)
    by false true e f =
        let l = front_length in
        let within : trace.length_at s at ≤ trace.limit = ltb-false trace.limit (trace.length_at s at) e in
        let like : trace.kind_at s at ≡ trace.kind = eqb-true (trace.kind_at s at) trace.kind f in
        trace-laws.read_whole front at (trace.length_at s at) same_length (omega arith) within (same_kind ∙ like) (omega arith)
        ∙ sym (trace-laws.read_whole s at (trace.length_at s at) refl (omega arith) within like (omega arith))

  -- a capture's
  same_word : (o : Order) (i : ℕ) → i + 4 ≤ n → word_in o front i ≡ word_in o s i
  same_word Little i b =
      ap₂ (λ (x y : ℕ). word_of x y (get_or front (i + 2) 0) (get_or front (i + 3) 0)) (octet i (omega arith)) (octet (i + 1) (omega arith))
      ∙ ap₂ (word_of (get_or s i 0) (get_or s (i + 1) 0)) (octet (i + 2) (omega arith)) (octet (i + 3) (omega arith))
  same_word Big i b =
      ap₂ (λ (x y : ℕ). word_of x y (get_or front (i + 1) 0) (get_or front i 0)) (octet (i + 3) (omega arith)) (octet (i + 2) (omega arith))
      ∙ ap₂ (word_of (get_or s (i + 3) 0) (get_or s (i + 2) 0)) (octet (i + 1) (omega arith)) (octet i (omega arith))

  pub capture_window : (o : Order) → record_at o front at ≡ record_at o s at
  capture_window o = by (ltb trace.limit (stored_at o s at)) (eqb (stored_at o s at) (original_at o s at)) refl refl where
    by : (b d : Bool) → ltb trace.limit (stored_at o s at) ≡ b → eqb (stored_at o s at) (original_at o s at) ≡ d → record_at o front at ≡ record_at o s at
    by true d e f =
        let l = front_length in
        let x = same_word o (at + 8) (omega arith) in
        let over : trace.limit < stored_at o s at = ltb-true trace.limit (stored_at o s at) e in
        capture-laws.stored_over o front at (omega arith) (omega arith) ∙ sym (capture-laws.stored_over o s at (omega arith) over)
    by false false e f =
        let l = front_length in
        let x = same_word o (at + 8) (omega arith) in
        let y = same_word o (at + 12) (omega arith) in
        let within : stored_at o s at ≤ trace.limit = ltb-false trace.limit (stored_at o s at) e in
        let unlike : stored_at o s at ≡ original_at o s at → ⊥ = eqb-false (stored_at o s at) (original_at o s at) f in
        capture-laws.original_other o front at (omega arith) (omega arith) (λ z. unlike (sym x ∙ z ∙ y)) ∙ sym (capture-laws.original_other o s at (omega arith) within unlike)
    by false true e f =
        let l = front_length in
        let x = same_word o (at + 8) (omega arith) in
        let y = same_word o (at + 12) (omega arith) in
        let within : stored_at o s at ≤ trace.limit = ltb-false trace.limit (stored_at o s at) e in
        let like : stored_at o s at ≡ original_at o s at = eqb-true (stored_at o s at) (original_at o s at) f in
        capture-laws.read_whole o front at (stored_at o s at) x (y ∙ sym like) (omega arith) within (omega arith)
        ∙ sym (capture-laws.read_whole o s at (stored_at o s at) refl (sym like) (omega arith) within (omega arith))

  -- and a capture's header
  same_half : (o : Order) (i : ℕ) → i + 2 ≤ n → half_in o front i ≡ half_in o s i
  same_half Little i b = ap₂ (λ (x y : ℕ). word_of x y 0 0) (octet i (omega arith)) (octet (i + 1) (omega arith))
  same_half Big i b = ap₂ (λ (x y : ℕ). word_of x y 0 0) (octet (i + 1) (omega arith)) (octet i (omega arith))

  same_fields : (o : Order) → fields_of o front ≡ fields_of o s
  same_fields o =
      let tree : ℕ → ℕ → ℕ → Opening = λ x y z. cond (not (eqb x major && eqb y minor)) (shut 72) (cond (not (eqb z link_type)) (shut 73) (opens o)) in
      ap₂ (λ (x y : ℕ). tree x y (word_in o front 20)) (same_half o 4 (omega arith)) (same_half o 6 (omega arith))
      ∙ ap (tree (half_in o s 4) (half_in o s 6)) (same_word o 20 (omega arith))

  pub header_window : open_of front ≡ open_of s
  header_window =
      let l = front_length in
      let tree : Bool → Bool → Opening → Opening → Opening = λ a b x y. cond a x (cond b y (shut 71)) in
      let test : ℕ → Bool = λ w. eqb w magic in
      capture-laws.open_whole front (omega arith)
      ∙ ap₂ (λ (x y : Opening). tree (test (word_in Little front 0)) (test (word_in Big front 0)) x y) (same_fields Little) (same_fields Big)
      ∙ ap₂ (λ (a b : ℕ). tree (test a) (test b) (fields_of Little s) (fields_of Big s)) (same_word Little 0 (omega arith)) (same_word Big 0 (omega arith))
      ∙ sym (capture-laws.open_whole s (omega arith))
