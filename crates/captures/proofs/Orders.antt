-- A capture is read the same in both byte orders.
-- Assumes nothing.
use mathlib.Core.Path.{◌≡◌, refl, sym, ap, ap₂, ◌∙◌}
use mathlib.Core.Bool.{Bool, true, false, cond, not}
use mathlib.Core.List.{List, ◌∷◌, ◌++◌}
use Prim.Native.Nat.{ℕ, zero, suc, ◌+◌, ◌-◌, ◌≤◌, ◌<◌}
use native.Mathlib.Omega.{arith}
use borrow.Author.Tests.{ltb-true, ltb-false, eqb-true, eqb-false}
use lib.Dec.{ltb, eqb}
use lib.ListN.{length, take, drop, get_or, length-append, length-drop}
use lib.Seq.{get_or-drop, drop-drop, take_all, take_at, drop_at, length-take-le}
use Rattle.rules.proofs.Tests.{tests, never, by_test}
use Rattle.fours.specs.Word.{word_of}
use Rattle.trace.specs.Trace.{found, ended, refused, left}
use Rattle.trace_layout.specs.Layout.{Listing, trace_of, rest_from}
use Rattle.trace_layout.proofs.Rest.{rest_found, rest_ended, rest_refused, everywhere}
use Rattle.pcap_fields.specs.Fields.{word_in}
use Rattle.pcap_fields.specs.declared.Order.{Order}
use Rattle.pcap_fields.specs.declared.Order.TheVariants.{Little, Big}
use Rattle.pcap_records.specs.Records.{file_header, header, magic, link_type, Opening, opens, shut, version_fits, fields_of, open_of, stored_at, original_at, record_at}
use Rattle.pcap_records.proofs.Laws.{read_end, header_cut, same_record, open_whole}
use Rattle.pcap_lists.specs.Lists.{judged, records_in}
use Rattle.pcap_records.proofs.Inside.{found_inside, capture_reading}
use Rattle.pcap.specs.Captures.{outcome, read_in, read_of}
use Rattle.captures.specs.Typed.{Octets}
use Rattle.captures.specs.Turned.{other, file_header_turned, header_turned, records_turned, order_of, turned}

same_word : {a b c d a' b' c' d' : ℕ} → a ≡ a' → b ≡ b' → c ≡ c' → d ≡ d' → word_of a b c d ≡ word_of a' b' c' d'
same_word {a} {b} {c} {d} {a'} {b'} p q r x = ap₂ (λ (i j : ℕ). word_of i j c d) p q ∙ ap₂ (λ (i j : ℕ). word_of a' b' i j) r x

-- the records of a file s in order o, from a place on, and those of a file t in the other order that is s turned from there on
module _ (o : Order) (s t : List ℕ) (long : length t ≡ length s) where
  abbrev Turned : ℕ → ℕ → Type 0
  Turned m at = drop at t ≡ records_turned m o s at

  -- a whole header: its fields stand the other way round
  module _ (m at : ℕ) (h : header ≤ left s at) (d : Turned (suc m) at) where
    abbrev stored : ℕ
    stored = stored_at o s at

    abbrev rest : List ℕ
    rest = take stored (drop (at + header) s) ++ records_turned m o s (at + header + stored)

    whole : drop at t ≡ header_turned s at ++ rest
    unfolding records_turned
    whole = d ∙ (let z = h in simp tests)

    field : (k j : ℕ) → j ≡ at + k → get_or t j 0 ≡ get_or (header_turned s at ++ rest) k 0
    field k j e = ap (λ (i : ℕ). get_or t i 0) e ∙ sym (get_or-drop at t k 0) ∙ ap (λ (l : List ℕ). get_or l k 0) whole

    stored_same : stored_at (other o) t at ≡ stored_at o s at
    stored_same = by o where
      by : (p : Order) → stored_at (other p) t at ≡ stored_at p s at
      by Little = same_word (field 11 (at + 8 + 3) (omega arith)) (field 10 (at + 8 + 2) (omega arith)) (field 9 (at + 8 + 1) (omega arith)) (field 8 (at + 8) refl)
      by Big = same_word (field 8 (at + 8) refl) (field 9 (at + 8 + 1) (omega arith)) (field 10 (at + 8 + 2) (omega arith)) (field 11 (at + 8 + 3) (omega arith))

    original-same : original_at (other o) t at ≡ original_at o s at
    original-same = by o where
      by : (p : Order) → original_at (other p) t at ≡ original_at p s at
      by Little = same_word (field 15 (at + 12 + 3) (omega arith)) (field 14 (at + 12 + 2) (omega arith)) (field 13 (at + 12 + 1) (omega arith)) (field 12 (at + 12) refl)
      by Big = same_word (field 12 (at + 12) refl) (field 13 (at + 12 + 1) (omega arith)) (field 14 (at + 12 + 2) (omega arith)) (field 15 (at + 12 + 3) (omega arith))

    -- behind it the content, as it is, and the next record
    behind : drop (at + header) t ≡ rest
    behind = sym (drop-drop header at t) ∙ ap (drop header) whole

  -- so the same is said of the record, be it whole, cut or none
  said_same : (m at : ℕ) → length s ≤ at + m → Turned m at → record_at (other o) t at ≡ record_at o s at
  said_same zero at h d = read_end (other o) t at (omega arith) ∙ sym (read_end o s at (omega arith))
  said_same (suc m) at h d = by (ltb (left s at) header) (eqb (left s at) 0) refl refl where
    by : (b z : Bool) → ltb (left s at) header ≡ b → eqb (left s at) 0 ≡ z → record_at (other o) t at ≡ record_at o s at
    by true true e f =
        let none : left s at ≡ 0 = eqb-true (left s at) 0 f in
        read_end (other o) t at (omega arith) ∙ sym (read_end o s at (omega arith))
    by true false e f =
        let cut : left s at < header = ltb-true (left s at) header e in
        let some : left s at ≡ 0 → ⊥ = eqb-false (left s at) 0 f in
        header_cut (other o) t at (omega arith) (omega arith) ∙ sym (header_cut o s at (omega arith) (omega arith))
    by false z e f =
        let full : header ≤ left s at = ltb-false (left s at) header e in
        same_record o (other o) s t at (omega arith) (omega arith) (stored_same m at full d) (original-same m at full d)

  -- a record that is found has the same content, and behind it all is turned again
  module _ (m at place n next : ℕ) (e : record_at o s at ≡ found place n next) (d : Turned (suc m) at) where
    full : header ≤ left s at
    full = let w = found_inside o s at place n next e in omega arith

    -- what stands behind the header: the content, and the records behind it
    from_place : drop place t ≡ take n (drop place s) ++ records_turned m o s next
    from_place =
        let w = found_inside o s at place n next e in
        let p = w.place_behind in
        ap (λ (i : ℕ). drop i t) p ∙ behind m at full d
        ∙ ap (λ (k : ℕ). take k (drop (at + header) s) ++ records_turned m o s (at + header + k)) w.stored
        ∙ ap₂ (λ (i j : ℕ). take n (drop i s) ++ records_turned m o s j) (sym p) (let z : at + header + n ≡ next = omega arith in z)

    content-long : length (take n (drop place s)) ≡ n
    content-long = let w = found_inside o s at place n next e in length-take-le n (drop place s) (omega (arith, length-drop place s))

    content-same : take n (drop place t) ≡ take n (drop place s)
    content-same = ap (take n) from_place ∙ take_at (take n (drop place s)) (records_turned m o s next) n content-long

    next-turned : Turned m next
    next-turned =
        let w = found_inside o s at place n next e in
        ap (λ (i : ℕ). drop i t) w.next_behind ∙ sym (drop-drop n place t) ∙ ap (drop n) from_place
        ∙ drop_at (take n (drop place s)) (records_turned m o s next) n content-long

  abbrev Same : ℕ → Type 0
  Same at = (m : ℕ) → length s ≤ at + m → Turned m at → rest_from (record_at (other o) t) t at ≡ rest_from (record_at o s) s at

  found_same : (at place n next : ℕ) → record_at o s at ≡ found place n next → Same next → Same at
  found_same at place n next e h zero l d = let w = found_inside o s at place n next e in absurd (let z : ⊥ = omega arith in z)
  found_same at place n next e h (suc m) l d =
      let w = found_inside o s at place n next e in
      rest_found (record_at (other o) t) t (capture_reading (other o) t) at place n next (said_same (suc m) at l d ∙ e)
      ∙ ap₂ (λ (x : List ℕ) (r : Listing). record { contents = x ∷ r.contents; stop = r.stop }) (content-same m at place n next e d)
      (h m (omega arith) (next-turned m at place n next e d))
      ∙ sym (rest_found (record_at o s) s (capture_reading o s) at place n next e)

  ended_same : (at : ℕ) → record_at o s at ≡ ended → Same at
  ended_same at e m l d =
      rest_ended (record_at (other o) t) t (capture_reading (other o) t) at (said_same m at l d ∙ e) ∙ sym (rest_ended (record_at o s) s (capture_reading o s) at e)

  refused_same : (at q : ℕ) → record_at o s at ≡ refused q → Same at
  refused_same at q e m l d =
      rest_refused (record_at (other o) t) t (capture_reading (other o) t) at q (said_same m at l d ∙ e) ∙ sym (rest_refused (record_at o s) s (capture_reading o s) at q e)

  records_same : (at : ℕ) → Same at
  records_same = everywhere (record_at o s) s (capture_reading o s) Same found_same ended_same refused_same

-- nothing gets longer or shorter
header_and_rest : (s r : List ℕ) (at n : ℕ) → header ≤ left s at → length r ≡ length s - (at + header + n)
    → length (header_turned s at ++ (take n (drop (at + header) s) ++ r)) ≡ length s - at
header_and_rest s r at n h e = by (ltb (left s (at + header)) n) refl where
  by : (d : Bool) → ltb (left s (at + header)) n ≡ d → length (header_turned s at ++ (take n (drop (at + header) s) ++ r)) ≡ length s - at
  by true f =
      let cut : left s (at + header) < n = ltb-true (left s (at + header)) n f in
      let l : length (take n (drop (at + header) s)) ≡ length s - (at + header) =
      ap length (take_all n (drop (at + header) s) (omega (arith, length-drop (at + header) s))) ∙ length-drop (at + header) s in
      omega (arith, l, length-append (take n (drop (at + header) s)) r)
  by false f =
      let fits : n ≤ left s (at + header) = ltb-false (left s (at + header)) n f in
      let l : length (take n (drop (at + header) s)) ≡ n = length-take-le n (drop (at + header) s) (omega (arith, length-drop (at + header) s)) in
      omega (arith, l, length-append (take n (drop (at + header) s)) r)

turned_length : (m : ℕ) (o : Order) (s : List ℕ) (at : ℕ) → length (records_turned m o s at) ≡ length s - at
unfolding records_turned
turned_length zero o s at = length-drop at s
turned_length (suc m) o s at =
    by_test (λ (x : List ℕ). length x ≡ length s - at) (ltb (left s at) header) (λ e. length-drop at s)
    (λ e. header_and_rest s _ at (stored_at o s at) (ltb-false (left s at) header e) (turned_length m o s (at + header + stored_at o s at)))

-- the file's header: what opens in one order opens in the other
abbrev flipped : Opening → Opening
flipped (opens o) = opens (other o)
flipped (shut q) = shut q

fields_flipped : (o : Order) (a b : Bool) → cond a (shut 72) (cond b (shut 73) (opens (other o))) ≡ flipped (cond a (shut 72) (cond b (shut 73) (opens o)))
fields_flipped o true b = refl
fields_flipped o false true = refl
fields_flipped o false false = refl

-- no four octets are the magic both ways
not_both : (s : List ℕ) → Octets s → word_in Little s 0 ≡ magic → word_in Big s 0 ≡ magic → ⊥
not_both s o a b =
    let w = o 0 in
    let x = o 1 in
    let y = o 2 in
    let z = o 3 in
    omega arith

module _ (s : List ℕ) (o : Octets s) (h : file_header ≤ length s) where
  abbrev t : List ℕ
  t = file_header_turned s ++ records_turned (length s) (order_of s) s file_header

  same_length : length t ≡ length s
  same_length = omega (arith, turned_length (length s) (order_of s) s file_header)

  -- the magic tells the order; the other fields are the same numbers
  by_magic : (a b : Bool) → eqb (word_in Little s 0) magic ≡ a → eqb (word_in Big s 0) magic ≡ b
      → cond b (fields_of Little t) (cond a (fields_of Big t) (shut 71)) ≡ flipped (cond a (fields_of Little s) (cond b (fields_of Big s) (shut 71)))
  by_magic true true e f = absurd (not_both s o (eqb-true (word_in Little s 0) magic e) (eqb-true (word_in Big s 0) magic f))
  by_magic true false e f = fields_flipped Little (not (version_fits Little s)) (not (eqb (word_in Little s 20) link_type))
  by_magic false true e f = fields_flipped Big (not (version_fits Big s)) (not (eqb (word_in Big s 20) link_type))
  by_magic false false e f = refl

  open_flipped : open_of t ≡ flipped (open_of s)
  open_flipped =
      open_whole t (omega (arith, same_length)) ∙ by_magic (eqb (word_in Little s 0) magic) (eqb (word_in Big s 0) magic) refl refl
      ∙ sym (ap flipped (open_whole s h))

  -- and what the file opens in is the order that it was turned from
  fields_order : (p q : Order) (a b : Bool) → cond a (shut 72) (cond b (shut 73) (opens p)) ≡ opens q → p ≡ q
  fields_order p q true b e = never (cc)
  fields_order p q false true e = never (cc)
  fields_order p q false false e = cc

  by_order : (q : Order) (a b : Bool) → cond a (fields_of Little s) (cond b (fields_of Big s) (shut 71)) ≡ opens q → cond a Little Big ≡ q
  by_order q true b e = fields_order Little q (not (version_fits Little s)) (not (eqb (word_in Little s 20) link_type)) e
  by_order q false true e = fields_order Big q (not (version_fits Big s)) (not (eqb (word_in Big s 20) link_type)) e
  by_order q false false e = never (cc)

  order_of_lem : (q : Order) → open_of s ≡ opens q → order_of s ≡ q
  order_of_lem q e = by_order q (eqb (word_in Little s 0) magic) (eqb (word_in Big s 0) magic) (sym (open_whole s h) ∙ e)

  in_order : (q : Order) → order_of s ≡ q → records_in (other q) t ≡ records_in q s
  in_order q e = records_same q s t same_length file_header (length s) (omega arith) (ap (λ (p : Order). records_turned (length s) p s file_header) e)

  by_opening : (room : ℕ) (x : Opening) → open_of s ≡ x → read_in (flipped x) t room ≡ read_in x s room
  by_opening room (opens q) e = ap (λ (l : Listing). outcome (judged l) (trace_of l.contents) room) (in_order q (order_of_lem q e))
  by_opening room (shut q) e = refl

  long_same : (room : ℕ) → read_of t room ≡ read_of s room
  long_same room = ap (λ (x : Opening). read_in x t room) open_flipped ∙ by_opening room (open_of s) refl

-- "read both byte orders": a file and the same in the other order are answered alike, with the same trace, whatever is in them
pub orders_same : (s : List ℕ) → Octets s → (room : ℕ) → read_of (turned s) room ≡ read_of s room
orders_same s o room =
    by_test (λ (x : List ℕ). read_of x room ≡ read_of s room) (ltb (length s) file_header) (λ e. refl) (λ e. long_same s o (ltb-false (length s) file_header e) room)
