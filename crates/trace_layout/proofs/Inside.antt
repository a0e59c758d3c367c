-- Where a record that is found lies.
-- Assumes nothing.
use mathlib.Core.Path.{◌≡◌, refl}
use mathlib.Core.Bool.{Bool, true, false, cond, not}
use mathlib.Core.List.{List}
use Prim.Native.Nat.{ℕ, ◌+◌, ◌≤◌}
use native.Mathlib.Omega.{arith}
use borrow.Author.Tests.{ltb-false, eqb-true, not-false}
use lib.Dec.{ltb, eqb}
use lib.ListN.{length}
use Rattle.rules.proofs.Tests.{never}
use Rattle.trace.proofs.Laws.{read_end}
use Rattle.trace_layout.specs.Layout.{Reading, Headed}
use Rattle.trace_layout.proofs.Rest.{reading_of}
use Rattle.trace.specs.Trace.{header, limit, kind, Said, found, ended, refused, length_at, kind_at, left, read_at}

-- where a record that is found lies: its content right behind the header, the next record right behind the content, all of it in the trace;
-- and what its header says
pub record Inside (s : List ℕ) (at place n next : ℕ) : Type 0 where
  pub behind : place ≡ at + header
  pub next_behind : next ≡ place + n
  pub inside : next ≤ length s
  pub within : n ≤ limit
  pub stored : length_at s at ≡ n
  pub of_kind : kind_at s at ≡ kind

-- the five tests of a record, whatever numbers refuse it
module _ (e h l k d : Bool) (p q r t place n next : ℕ) where
  -- a record that is found passed them all
  pub passed : (x : Said) → cond e ended (cond h (refused p) (cond l (refused q) (cond k (refused r) (cond d (refused t) x)))) ≡ found place n next
      → (h ≡ false) × ((l ≡ false) × ((k ≡ false) × ((d ≡ false) × (x ≡ found place n next))))
  passed x w = by_cases e h l k d w where
    by_cases : (e h l k d : Bool) → cond e ended (cond h (refused p) (cond l (refused q) (cond k (refused r) (cond d (refused t) x)))) ≡ found place n next
        → (h ≡ false) × ((l ≡ false) × ((k ≡ false) × ((d ≡ false) × (x ≡ found place n next))))
    by_cases true h l k d w = never (cc)
    by_cases false true l k d w = never (cc)
    by_cases false false true k d w = never (cc)
    by_cases false false false true d w = never (cc)
    by_cases false false false false true w = never (cc)
    by_cases false false false false false w = (refl, (refl, (refl, (refl, w))))

  -- and only the first of them says the end
  pub over : cond e ended (cond h (refused p) (cond l (refused q) (cond k (refused r) (cond d (refused t) (found place n next))))) ≡ ended → e ≡ true
  over w = by_cases e h l k d w where
    by_cases : (e h l k d : Bool) → cond e ended (cond h (refused p) (cond l (refused q) (cond k (refused r) (cond d (refused t) (found place n next))))) ≡ ended → e ≡ true
    by_cases true h l k d w = refl
    by_cases false true l k d w = never (cc)
    by_cases false false true k d w = never (cc)
    by_cases false false false true d w = never (cc)
    by_cases false false false false true w = never (cc)
    by_cases false false false false false w = never (cc)

pub found_inside : (s : List ℕ) (at place n next : ℕ) → read_at s at ≡ found place n next → Inside s at place n next
unfolding read_at
found_inside s at place n next p =
    let w = passed (eqb (left s at) 0) (ltb (left s at) header) (ltb limit (length_at s at)) (not (eqb (kind_at s at) kind)) (ltb (left s (at + header)) (length_at s at)) 50 51 52 53 place n next _ p in
    let f : found (at + header) (length_at s at) (at + header + length_at s at) ≡ found place n next = w.1.1.1.1 in
    let a : at + header ≡ place = cc in
    let b : length_at s at ≡ n = cc in
    let c : at + header + length_at s at ≡ next = cc in
    record {
      behind = omega arith;
      next_behind = omega arith;
      inside = omega (arith, ltb-false);
      within = omega (arith, ltb-false);
      stored = b;
      of_kind = eqb-true (kind_at s at) kind (not-false _ w.1.1.0);
    }

-- the end is said at the end only
pub ended_over : (s : List ℕ) (at : ℕ) → read_at s at ≡ ended → length s ≤ at
unfolding read_at
ended_over s at p =
    let e = over (eqb (left s at) 0) (ltb (left s at) header) (ltb limit (length_at s at)) (not (eqb (kind_at s at) kind)) (ltb (left s (at + header)) (length_at s at)) 50 51 52 53 (at + header) (length_at s at) (at + header + length_at s at) p in
    let z : left s at ≡ 0 = eqb-true (left s at) 0 e in
    omega arith

-- so a trace is read on and on up to its end
pub trace_headed : (s : List ℕ) → Headed (read_at s) s
trace_headed s =
    record {
      ends = λ at h. read_end s at h;
      grows = λ at place n next e. let w = found_inside s at place n next e in omega arith;
      least = λ at place n next e. let w = found_inside s at place n next e in omega arith;
      behind = λ at place n next e. (found_inside s at place n next e).next_behind;
      inside = λ at place n next e. (found_inside s at place n next e).inside;
      within = λ at place n next e. (found_inside s at place n next e).within;
    }

pub trace_reading : (s : List ℕ) → Reading (read_at s) s
trace_reading s = reading_of (trace_headed s)
