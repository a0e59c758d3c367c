-- A trace of any contents is read back record by record.
-- Assumes nothing.
use mathlib.Core.Path.{◌≡◌, refl, sym, ap, ap₂, ◌∙◌}
use mathlib.Core.List.{List, [], ◌∷◌, ◌++◌, append_assoc, append-nil}
use Prim.Native.Nat.{ℕ, suc, ◌+◌, ◌/◌, ◌%◌, ◌≤◌, ◌<◌}
use native.Mathlib.Omega.{arith}
use lib.ListN.{length, take, drop, get_or, length-append}
use lib.Seq.{get_or-append_seam, get_or-append-add, take-append_seam, drop-append-add, take-suc, split_at}
use Rattle.trace.specs.Trace.{header, limit, kind, found, ended, little_endian, length_at, kind_at, read_at}
use Rattle.trace.proofs.Laws.{read_whole}
use Rattle.trace_layout.specs.Layout.{record_of, trace_of, place_of, read_all}
use Rattle.trace_layout.proofs.Inside.{trace_reading}
use Rattle.trace_layout.proofs.Laid.{Layout, Standing, laid_read}
use Rattle.trace_layout.proofs.Rest.{rest_stops}

-- two octets give their number back
two_back : (n : ℕ) → n ≤ limit → little_endian (n % 256) (n / 256 % 256) ≡ n
two_back n h = omega arith

-- a record behind any octets and before any others: it is found, and its content is what was laid there
module _ (before c behind : List ℕ) where
  abbrev around : List ℕ
  around = before ++ (record_of c ++ behind)

  around_length : length around ≡ length before + header + length c + length behind
  around_length = simp length-append (omega arith)

  length_read : length c ≤ limit → length_at around (length before) ≡ length c
  length_read h = ap₂ little_endian (get_or-append_seam before _ _ 0) (get_or-append-add before (record_of c ++ behind) 1 0) ∙ two_back (length c) h

  kind_read : kind_at around (length before) ≡ kind
  kind_read = ap₂ little_endian (get_or-append-add before (record_of c ++ behind) 2 0) (get_or-append-add before (record_of c ++ behind) 3 0)

  record_read : length c ≤ limit
      → read_at (before ++ (record_of c ++ behind)) (length before) ≡ found (length before + header) (length c) (length before + header + length c)
  record_read h =
      let l = around_length in
      read_whole around (length before) (length c) (length_read h) (omega arith) h kind_read (omega arith)

  content_read : take (length c) (drop (length before + header) (before ++ (record_of c ++ behind))) ≡ c
  content_read = ap (λ (x : List ℕ). take (length c) x) (drop-append-add before (record_of c ++ behind) header) ∙ take-append_seam c behind

-- all of a trace
pub trace_layout : Layout record_of trace_of
unfolding trace_of
trace_layout = record { none = refl; more = λ c cs. refl }

stands : Standing read_at trace_reading record_of trace_of trace_layout
stands before c behind h =
    let next : length before + header + length c ≡ length before + length (record_of c) = omega arith in
    record {
      place = length before + header;
      found-there = record_read before c behind h ∙ ap (found (length before + header) (length c)) next;
      content = content_read before c behind;
    }

pub read_back : (cs : List (List ℕ)) → ((i : ℕ) → length (get_or cs i []) ≤ limit) → read_all (trace_of cs) ≡ record { contents = cs; stop = ended }
read_back cs f = laid_read read_at trace_reading record_of trace_of trace_layout stands [] cs f

-- each record of a trace, at its place
trace_append : (xs ys : List (List ℕ)) → trace_of (xs ++ ys) ≡ trace_of xs ++ trace_of ys
unfolding trace_of
trace_append [] ys = refl
trace_append (x ∷ xs) ys = ap (λ (l : List ℕ). record_of x ++ l) (trace_append xs ys) ∙ sym (append_assoc (record_of x) (trace_of xs) (trace_of ys))

module _ (cs : List (List ℕ)) (k : ℕ) (h : k < length cs) where
  split : trace_of cs ≡ trace_of (take k cs) ++ (record_of (get_or cs k []) ++ trace_of (drop (suc k) cs))
  unfolding trace_of
  split = ap trace_of (split_at cs k [] h) ∙ trace_append (take k cs) (get_or cs k [] ∷ drop (suc k) cs)

  next_place : place_of cs (suc k) ≡ place_of cs k + header + length (get_or cs k [])
  unfolding trace_of
  next_place =
      ap length (ap trace_of (take-suc cs k [] h) ∙ trace_append (take k cs) (get_or cs k [] ∷ []))
      ∙ simp (length-append, append-nil) (omega arith)

  pub kth_read : length (get_or cs k []) ≤ limit
      → read_at (trace_of cs) (place_of cs k) ≡ found (place_of cs k + header) (length (get_or cs k [])) (place_of cs (suc k))
  kth_read f = rw (split, next_place) (record_read (trace_of (take k cs)) (get_or cs k []) (trace_of (drop (suc k) cs)) f)

  pub kth_content : take (length (get_or cs k [])) (drop (place_of cs k + header) (trace_of cs)) ≡ get_or cs k []
  kth_content = rw split (content_read (trace_of (take k cs)) (get_or cs k []) (trace_of (drop (suc k) cs)))

-- any octets at all are read up to the end or a refusal
pub read_all_stops : (s : List ℕ) (place n next : ℕ) → (read_all s).stop ≡ found place n next → ⊥
read_all_stops s = rest_stops (read_at s) s (trace_reading s) 0
