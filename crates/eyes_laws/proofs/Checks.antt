-- A capture for eyes differs from the plain one in check octets of mFrames that are answered 2, 3 or 4, which are inverted, and in no other octet.
-- Assumes nothing.
use mathlib.Core.Path.{◌≡◌, refl, sym, ap, ap₂, ◌∙◌}
use mathlib.Core.Bool.{Bool, true, false, ◌&&◌, ◌||◌}
use mathlib.Core.Logic.{◌⊎◌, inl, inr}
use mathlib.Core.List.{List, [], ◌∷◌, ◌++◌, map}
use Prim.Native.Nat.{ℕ, zero, suc, ◌+◌, ◌-◌, ◌≤◌, ◌<◌}
use native.Mathlib.Omega.{arith}
use borrow.Author.Tests.{lt-ltb, le-ltb, le-leb, lt-leb}
use lib.Dec.{ltb}
use lib.ListN.{length, get_or, get_or-append}
use lib.Seq.{get_or-append-add}
use Rattle.rules.proofs.Tests.{no_and, first_none, second_none, below}
use Rattle.crc.specs.Crc.{inverted}
use Rattle.endings.specs.Judge.{last_four}
use Rattle.endings.proofs.Endings.{four_last}
use Rattle.trace_layout.specs.Layout.{read_all}
use Rattle.pcap_headers.specs.Headers.{file_header, capture_record, capture_records, capture_of}
use Rattle.pcap_headers.proofs.Lengths.{length_file_header, length_record}
use Rattle.receiver_record.specs.declared.Record.{Record}
use Rattle.receiver_record.specs.Records.{fresh}
use Rattle.receive.specs.Receive.{received_of}
use Rattle.eyes_records.specs.Shown.{is_right, shown_of}
use Rattle.eyes_records.proofs.Right.{right}
use Rattle.eyes_records.proofs.Laws.{shown_right, shown_other, shown_length, front, front_length, record_split, record_anew, four_inverted}
use Rattle.eyes.specs.Eyes.{buffer_length, shown_from, shown_in}
use Rattle.eyes_laws.specs.Changed.{in_check, changed_at, turned}

-- the octet at a place of two lists, one behind the other
at_first : (xs ys : List ℕ) (j : ℕ) → j < length xs → get_or (xs ++ ys) j 0 ≡ get_or xs j 0
at_first xs ys j h = get_or-append xs ys 0 j h

at_second : (xs ys : List ℕ) (j : ℕ) → length xs ≤ j → get_or (xs ++ ys) j 0 ≡ get_or ys (j - length xs) 0
at_second xs ys j h =
    ap (λ (k : ℕ). get_or (xs ++ ys) k 0) (let z : j ≡ length xs + (j - length xs) = omega arith in z) ∙ get_or-append-add xs ys (j - length xs) 0

at_inverted : (xs : List ℕ) (k : ℕ) → k < length xs → get_or (map inverted xs) k 0 ≡ inverted (get_or xs k 0)
at_inverted [] k h = absurd (omega arith)
at_inverted (x ∷ xs) zero h = refl
at_inverted (x ∷ xs) (suc k) h = at_inverted xs k (omega arith)

-- the four octets before an end are behind all before them, and before all behind it
early : (end i : ℕ) → i + 4 < end → in_check end i ≡ false
early end i h = no_and (ltb i end) (lt-leb end (i + 4) h)

late : (end i : ℕ) → end ≤ i → in_check end i ≡ false
late end i h = rw (le-ltb i end h) refl

there : (end i : ℕ) → i < end → end ≤ i + 4 → in_check end i ≡ true
there end i h k = rw (lt-ltb i end h, le-leb end (i + 4) k) refl

-- before the first record's place nothing is changed
none_before : (r : Record) (cs : List (List ℕ)) (at i : ℕ) → i < at → changed_at r cs at i ≡ false
unfolding changed_at
none_before r [] at i h = refl
none_before r (c ∷ cs) at i h =
    first_none (no_and (is_right c r buffer_length) (early (at + (16 + length c)) i (omega arith))) ∙ (none_before (received_of c r buffer_length).after cs (at + (16 + length c)) i (omega arith))

-- the octet j of one record, with its header at a place
module _ (c : List ℕ) (r : Record) where
  abbrev size : ℕ
  size = 16 + length c

  abbrev Same : Bool → ℕ → ℕ → Type 0
  Same b at j = get_or (capture_record (shown_of c r buffer_length)) j 0 ≡ turned (b && in_check (at + size) (at + j)) (get_or (capture_record c) j 0)

  in_shown : is_right c r buffer_length ≡ true → (at j : ℕ) → j < size → Same true at j
  in_shown q at j h =
      let enough = (right c r buffer_length q).enough in
      let four : 4 ≤ length c = omega arith in
      let shown : get_or (capture_record (shown_of c r buffer_length)) j 0 ≡ get_or (front c ++ map inverted (last_four c)) j 0 =
      ap (λ (l : List ℕ). get_or l j 0) (ap capture_record (shown_right c r buffer_length q) ∙ record_anew c (map inverted (last_four c)) four (four_inverted c four)) in
      let plain : get_or (front c ++ last_four c) j 0 ≡ get_or (capture_record c) j 0 = ap (λ (l : List ℕ). get_or l j 0) (sym (record_split c)) in
      shown ∙ by_place four (below j (length (front c))) (front_length c) (four_last c four) ∙ ap (turned (in_check (at + size) (at + j))) plain
    where
      by_place : 4 ≤ length c → (j < length (front c)) ⊎ (length (front c) ≤ j) → length (front c) ≡ 16 + (length c - 4) → length (last_four c) ≡ 4
          → get_or (front c ++ map inverted (last_four c)) j 0 ≡ turned (in_check (at + size) (at + j)) (get_or (front c ++ last_four c) j 0)
      by_place four (inl k) long last =
          rw (early (at + size) (at + j) (omega arith)) (at_first (front c) (map inverted (last_four c)) j k ∙ sym (at_first (front c) (last_four c) j k))
      by_place four (inr k) long last =
          rw (there (at + size) (at + j) (omega arith) (omega arith))
          (at_second (front c) (map inverted (last_four c)) j k ∙ at_inverted (last_four c) (j - length (front c)) (omega arith)
          ∙ ap inverted (sym (at_second (front c) (last_four c) j k)))

  in_record : (at j : ℕ) → j < size → Same (is_right c r buffer_length) at j
  in_record at j h = go (is_right c r buffer_length) refl
    where
      go : (b : Bool) → is_right c r buffer_length ≡ b → Same b at j
      go true q = in_shown q at j h
      go false q = ap (λ (l : List ℕ). get_or (capture_record l) j 0) (shown_other c r buffer_length q)

  abbrev after : Record
  after = (received_of c r buffer_length).after

  -- and of all from there on, if they differ so behind the first record
  module _ (cs : List (List ℕ)) (at j : ℕ) where
    abbrev Behind : Type 0
    Behind = get_or (capture_records (shown_from after cs)) (j - size) 0
        ≡ turned (changed_at after cs (at + size) (at + size + (j - size))) (get_or (capture_records cs) (j - size) 0)

    abbrev Differ : Type 0
    Differ = get_or (capture_record (shown_of c r buffer_length) ++ capture_records (shown_from after cs)) j 0
        ≡ turned ((is_right c r buffer_length && in_check (at + size) (at + j)) || changed_at after cs (at + size) (at + j)) (get_or (capture_record c ++ capture_records cs) j 0)

    shown-size : length (capture_record (shown_of c r buffer_length)) ≡ size
    shown-size = length_record (shown_of c r buffer_length) ∙ ap (λ (k : ℕ). 16 + k) (shown_length c r buffer_length)

    in-first : j < size → Differ
    in-first h =
        at_first (capture_record (shown_of c r buffer_length)) (capture_records (shown_from after cs)) j (omega (arith, shown-size)) ∙ in_record at j h
        ∙ ap₂ turned (sym (second_none (is_right c r buffer_length && in_check (at + size) (at + j)) (none_before after cs (at + size) (at + j) (omega arith))))
        (sym (at_first (capture_record c) (capture_records cs) j (omega (arith, length_record c))))

    behind-first : Behind → size ≤ j → Differ
    behind-first w h =
        at_second (capture_record (shown_of c r buffer_length)) (capture_records (shown_from after cs)) j (omega (arith, shown-size))
        ∙ ap (λ (k : ℕ). get_or (capture_records (shown_from after cs)) (j - k) 0) shown-size ∙ w
        ∙ ap₂ turned
        (ap (changed_at after cs (at + size)) (let z : at + size + (j - size) ≡ at + j = omega arith in z)
        ∙ sym (first_none (no_and (is_right c r buffer_length) (late (at + size) (at + j) (omega arith)))))
        (ap (λ (k : ℕ). get_or (capture_records cs) (j - k) 0) (sym (length_record c)) ∙ sym (at_second (capture_record c) (capture_records cs) j (omega (arith, length_record c))))

    differ : Behind → Differ
    differ w = go (below j size)
      where
        go : (j < size) ⊎ (size ≤ j) → Differ
        go (inl h) = in-first h
        go (inr h) = behind-first w h

records_differ : (r : Record) (cs : List (List ℕ)) (at j : ℕ)
    → get_or (capture_records (shown_from r cs)) j 0 ≡ turned (changed_at r cs at (at + j)) (get_or (capture_records cs) j 0)
unfolding changed_at capture_records shown_from
records_differ r [] at j = refl
records_differ r (c ∷ cs) at j = differ c r cs at j (records_differ (received_of c r buffer_length).after cs (at + (16 + length c)) (j - (16 + length c)))

-- the octet i of both captures of a trace
pub only_checks : (s : List ℕ) (i : ℕ) → get_or (capture_of (shown_in s)) i 0 ≡ turned (changed_at fresh (read_all s).contents 24 i) (get_or (capture_of (read_all s).contents) i 0)
only_checks s i = go (below i 24) length_file_header
  where
    go : (i < 24) ⊎ (24 ≤ i) → length file_header ≡ 24
        → get_or (capture_of (shown_in s)) i 0 ≡ turned (changed_at fresh (read_all s).contents 24 i) (get_or (capture_of (read_all s).contents) i 0)
    go (inl h) k =
        at_first file_header (capture_records (shown_in s)) i (omega arith)
        ∙ sym (ap₂ turned (none_before fresh (read_all s).contents 24 i h) (at_first file_header (capture_records (read_all s).contents) i (omega arith)))
    go (inr h) k =
        at_second file_header (capture_records (shown_in s)) i (omega arith) ∙ records_differ fresh (read_all s).contents 24 (i - length file_header)
        ∙ ap₂ turned (ap (changed_at fresh (read_all s).contents 24) (let z : 24 + (i - length file_header) ≡ i = omega arith in z))
        (sym (at_second file_header (capture_records (read_all s).contents) i (omega arith)))
