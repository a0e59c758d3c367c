-- Both round trips: a list that is read and written back has the same octets, and entries that are written and read back are the same.
-- Assumes nothing.
use mathlib.Core.Path.{◌≡◌, refl, sym, ap, ap₂, ◌∙◌}
use mathlib.Core.Bool.{Bool, true, ◌&&◌}
use mathlib.Core.List.{List, [], ◌∷◌, ◌++◌, append_assoc}
use Prim.Native.Nat.{ℕ, zero, suc, ◌+◌, ◌*◌, ◌/◌, ◌%◌, ◌≤◌, ◌<◌}
use native.Mathlib.Omega.{arith}
use borrow.Author.Tests.{le-leb}
use lib.ListN.{length, get_or, take, drop, length-append, take-append-drop, drop_of_length-le}
use lib.Seq.{drop-drop, get_or-append_seam, get_or-append-add, split_at, length-take-le}
use Rattle.fours.specs.Word.{word_of, octets_of}
use Rattle.fours.proofs.Words.{first_of, digits, word_back}
use Rattle.gate_entries.specs.Entries.{greatest, five, size, Entry, entry, operation, gates, interval, high_first, entry_octets, entry_at, fault_at, fitting}
use Rattle.gate_entries.proofs.Laws.{passes, passed, fitting_known}
use Rattle.gate_lists.specs.Lists.{good, of_octets, of_entries, entries_from, octets_of_all}
use Rattle.gate_lists.proofs.Contents.{length_all}
use Rattle.gate_lists.proofs.Good.{octets_good, good_octets, entries_good, good_entries}
use Rattle.gates.specs.Gates.{entries_of}
use Rattle.gates.proofs.Laws.{entries_of_lem, count_of}
use Rattle.schedule.specs.Typed.{Octets, Words, Entries}

-- an interval's octets, high octet first
high_first_lem : (a b c d : ℕ) → a < 256 → b < 256 → c < 256 → d < 256 → high_first (word_of a b c d) ≡ d ∷ c ∷ b ∷ a ∷ []
unfolding octets_of
high_first_lem a b c d ha hb hc hd =
    ap (λ (l : List ℕ). get_or l 3 0 ∷ get_or l 2 0 ∷ get_or l 1 0 ∷ get_or l 0 0 ∷ []) (digits a b c d ha hb hc hd)

then : (x : ℕ) {l m : List ℕ} → l ≡ m → x ∷ l ≡ x ∷ m
then x e = ap (λ (l : List ℕ). x ∷ l) e

-- the octets of an entry that stands in a list are those that stand there
module _ (s : List ℕ) (o : Octets s) (at : ℕ) (z : fault_at s at ≡ 0) where
  stand : take size (drop at s)
      ≡ get_or s at 0 ∷ get_or s (at + 1) 0 ∷ get_or s (at + 2) 0 ∷ get_or s (at + 3) 0 ∷ get_or s (at + 4) 0 ∷ get_or s (at + 5) 0 ∷ get_or s (at + 6) 0 ∷ []
  stand =
      let r = (passed s at z).room in
      first_of s 6 at (at + 1) (omega arith) refl
      ∙ then (get_or s at 0) (first_of s 5 (at + 1) (at + 2) (omega arith) (omega arith)
      ∙ then (get_or s (at + 1) 0) (first_of s 4 (at + 2) (at + 3) (omega arith) (omega arith)
      ∙ then (get_or s (at + 2) 0) (first_of s 3 (at + 3) (at + 4) (omega arith) (omega arith)
      ∙ then (get_or s (at + 3) 0) (first_of s 2 (at + 4) (at + 5) (omega arith) (omega arith)
      ∙ then (get_or s (at + 4) 0) (first_of s 1 (at + 5) (at + 6) (omega arith) (omega arith)
      ∙ then (get_or s (at + 5) 0) (first_of s 0 (at + 6) (at + 7) (omega arith) (omega arith)))))))

  entry_back : entry_octets (entry_at s at) ≡ take size (drop at s)
  unfolding entry_octets entry_at
  entry_back =
      ap₂ (λ (n : ℕ) (l : List ℕ). get_or s at 0 ∷ n ∷ get_or s (at + 2) 0 ∷ l) (sym (passed s at z).fifth)
      (high_first_lem (get_or s (at + 6) 0) (get_or s (at + 5) 0) (get_or s (at + 4) 0) (get_or s (at + 3) 0) (o (at + 6)) (o (at + 5)) (o (at + 4)) (o (at + 3)))
      ∙ sym stand

-- all that stand from one place on
all_back : (s : List ℕ) → Octets s → (n k : ℕ) → length s ≡ (k + n) * size → ((j : ℕ) → j < k + n → fault_at s (j * size) ≡ 0)
    → octets_of_all (entries_from n s k) ≡ drop (k * size) s
unfolding octets_of_all entries_from
all_back s o zero k l f = sym (drop_of_length-le s (let h : length s ≤ k * size = omega arith in h))
all_back s o (suc n) k l f =
    ap₂ (λ (x y : List ℕ). x ++ y) (entry_back s o (k * size) (f k (omega arith))) (all_back s o n (suc k) (omega arith) (λ j h. f j (omega arith)))
    ∙ ap (λ (x : List ℕ). take size (drop (k * size) s) ++ x) (ap (λ (x : ℕ). drop x s) (let e : suc k * size ≡ k * size + size = omega arith in e) ∙ sym (drop-drop size (k * size) s))
    ∙ take-append-drop size (drop (k * size) s)

-- read, then written: for every list accepted its entries are accepted, and have its octets
pub read_written : (s : List ℕ) → Octets s → (n : ℕ) → of_octets s ≡ good n → octets_of_all (entries_of s) ≡ s
read_written s o n g =
    let b = octets_good s n g in
    let l = b.exact in
    ap octets_of_all (entries_of_lem s n g) ∙ all_back s o n 0 (omega arith) (λ j h. b.each j (omega arith))

-- and they are accepted
entry_fits : (s : List ℕ) → Octets s → (at : ℕ) → fault_at s at ≡ 0 → fitting (entry_at s at) ≡ true
unfolding entry_at
entry_fits s o at z =
    let k = (passed s at z).known in
    let g = o (at + 2) in
    ap₂ (λ (x y : Bool). x && y) (le-leb (get_or s at 0) greatest k) (le-leb (get_or s (at + 2) 0) 255 (omega arith))

entry_there : (n : ℕ) (s : List ℕ) (k j : ℕ) → j < n → get_or (entries_from n s k) j [] ≡ entry_at s ((k + j) * size)
unfolding entries_from
entry_there zero s k j h = absurd (let z : ⊥ = omega arith in z)
entry_there (suc n) s k zero h = ap (λ (m : ℕ). entry_at s (m * size)) (let z : k ≡ k + 0 = omega arith in z)
entry_there (suc n) s k (suc j) h = entry_there n s (suc k) j (omega arith) ∙ ap (λ (m : ℕ). entry_at s (m * size)) (let z : suc k + j ≡ k + suc j = omega arith in z)

pub entry_of : (s : List ℕ) (n : ℕ) → of_octets s ≡ good n → (k : ℕ) → k < n → get_or (entries_of s) k [] ≡ entry_at s (k * size)
entry_of s n g k h =
    ap (λ (es : List Entry). get_or es k []) (entries_of_lem s n g) ∙ entry_there n s 0 k h ∙ ap (λ (m : ℕ). entry_at s (m * size)) (let z : 0 + k ≡ k = omega arith in z)

pub read_good : (s : List ℕ) → Octets s → (n : ℕ) → of_octets s ≡ good n → of_entries (entries_of s) ≡ good n
read_good s o n g =
    let b = octets_good s n g in
    let l = count_of s n g in
    let m = b.bound in
    good_entries (entries_of s) (omega arith)
    (λ k h. ap fitting (entry_of s n g k (omega arith)) ∙ entry_fits s o (k * size) (b.each k (omega arith)))
    ∙ ap good (sym l)

-- an entry's octets behind any others and before any: it passes, and is the entry
module _ (before behind : List ℕ) (e : Entry) (f : fitting e ≡ true) where
  abbrev around : List ℕ
  around = before ++ (entry_octets e ++ behind)

  at_place : (i : ℕ) → get_or around (length before + i) 0 ≡ get_or (entry_octets e ++ behind) i 0
  at_place i = get_or-append-add before (entry_octets e ++ behind) i 0

  first_place : get_or around (length before) 0 ≡ operation e
  unfolding entry_octets
  first_place = get_or-append_seam before (operation e) (five ∷ gates e ∷ high_first (interval e) ++ behind) 0

  entry_passes : fault_at around (length before) ≡ 0
  unfolding entry_octets
  entry_passes =
      let l : length around ≡ length before + (7 + length behind) = simp length-append (omega arith) in
      let p = first_place in
      let q : get_or around (length before + 1) 0 ≡ five = at_place 1 in
      let k = (fitting_known e f).0 in
      passes around (length before) (omega arith) (omega arith) (omega arith) q

  interval_read : Words e
      → word_of (get_or around (length before + 6) 0) (get_or around (length before + 5) 0) (get_or around (length before + 4) 0) (get_or around (length before + 3) 0) ≡ interval e
  unfolding entry_octets
  interval_read w =
      let t = interval e in
      ap₂ (λ (x y : ℕ). word_of x y (get_or around (length before + 4) 0) (get_or around (length before + 3) 0)) (at_place 6) (at_place 5)
      ∙ ap₂ (word_of (t % 256) (t / 256 % 256)) (at_place 4) (at_place 3) ∙ word_back t w.small

  entry_read : Words e → entry_at around (length before) ≡ e
  unfolding entry_octets entry_at
  entry_read w =
      ap₂ (λ (x y : ℕ). entry x (get_or around (length before + 2) 0) y) first_place (interval_read w)
      ∙ ap (λ (x : ℕ). entry (operation e) x (interval e)) (at_place 2) ∙ sym w.three

-- the octets of entries, parted at one of them
octets_append : (xs ys : List Entry) → octets_of_all (xs ++ ys) ≡ octets_of_all xs ++ octets_of_all ys
unfolding octets_of_all
octets_append [] ys = refl
octets_append (x ∷ xs) ys = ap (λ (l : List ℕ). entry_octets x ++ l) (octets_append xs ys) ∙ sym (append_assoc (entry_octets x) (octets_of_all xs) (octets_of_all ys))

module _ (es : List Entry) (f : (k : ℕ) → k < length es → fitting (get_or es k []) ≡ true) (k : ℕ) (h : k < length es) where
  split : octets_of_all es ≡ octets_of_all (take k es) ++ (entry_octets (get_or es k []) ++ octets_of_all (drop (suc k) es))
  unfolding octets_of_all
  split = ap octets_of_all (split_at es k [] h) ∙ octets_append (take k es) (get_or es k [] ∷ drop (suc k) es)

  place : length (octets_of_all (take k es)) ≡ k * size
  place = length_all (take k es) ∙ ap (λ (n : ℕ). n * size) (length-take-le k es (omega arith))

  passes_there : fault_at (octets_of_all es) (k * size) ≡ 0
  passes_there =
      ap₂ fault_at split (sym place) ∙ entry_passes (octets_of_all (take k es)) (octets_of_all (drop (suc k) es)) (get_or es k []) (f k h)

  read_there : Words (get_or es k []) → entry_at (octets_of_all es) (k * size) ≡ get_or es k []
  read_there w =
      ap₂ entry_at split (sym place) ∙ entry_read (octets_of_all (take k es)) (octets_of_all (drop (suc k) es)) (get_or es k []) (f k h) w

-- entries that each stand at their place are the entries of a list
all_read : (s : List ℕ) (es : List Entry) (k : ℕ) → ((j : ℕ) → j < length es → entry_at s ((k + j) * size) ≡ get_or es j []) → entries_from (length es) s k ≡ es
unfolding entries_from
all_read s [] k f = refl
all_read s (e ∷ es) k f =
    ap₂ (λ (x : Entry) (l : List Entry). x ∷ l)
    (ap (λ (n : ℕ). entry_at s (n * size)) (let z : k ≡ k + 0 = omega arith in z) ∙ f 0 (omega arith))
    (all_read s es (suc k) (λ j h. ap (λ (n : ℕ). entry_at s (n * size)) (let z : suc k + j ≡ k + suc j = omega arith in z) ∙ f (suc j) (omega arith)))

-- written, then read: for every list of entries accepted its octets are accepted, and have its entries
pub written_good : (es : List Entry) (n : ℕ) → of_entries es ≡ good n → of_octets (octets_of_all es) ≡ good n
written_good es n g =
    let b = entries_good es n g in
    let l = length_all es in
    let a = b.all in
    good_octets (octets_of_all es) n b.bound (omega arith) (λ k h. passes_there es (λ j i. b.each j (omega arith)) k (omega arith))

pub written_read : (es : List Entry) → Entries es → (n : ℕ) → of_entries es ≡ good n → entries_of (octets_of_all es) ≡ es
written_read es w n g =
    let b = entries_good es n g in
    entries_of_lem (octets_of_all es) n (written_good es n g)
    ∙ ap (λ (k : ℕ). entries_from k (octets_of_all es) 0) b.all
    ∙ all_read (octets_of_all es) es 0
    (λ j h. ap (λ (k : ℕ). entry_at (octets_of_all es) (k * size)) (let z : 0 + j ≡ j = omega arith in z)
    ∙ read_there es (λ k i. b.each k (omega (arith, b.all))) j h (w j h))
