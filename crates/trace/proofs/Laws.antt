-- Laws of reading at a place: when each answer is given.
-- Assumes nothing.
use mathlib.Core.Path.{◌≡◌, ap, ◌∙◌}
use mathlib.Core.List.{List}
use Prim.Native.Nat.{ℕ, ◌+◌, ◌≤◌, ◌<◌}
use native.Mathlib.Omega.{arith}
use lib.ListN.{length}
use Rattle.rules.proofs.Tests.{tests}
use Rattle.trace.specs.Trace.{header, limit, kind, found, ended, refused, length_at, kind_at, left, read_at}

-- the answers, in the order of the tests
module _ (s : List ℕ) (at : ℕ) where
  some : at < length s → left s at ≡ 0 → ⊥
  some h z = omega arith

  pub read_end : length s ≤ at → read_at s at ≡ ended
  unfolding read_at
  read_end h = let z : left s at ≡ 0 = omega arith in simp tests

  pub header_cut : at < length s → left s at < header → read_at s at ≡ refused 50
  unfolding read_at
  header_cut h a = let z = some h in simp tests

  pub length_over : header ≤ left s at → limit < length_at s at → read_at s at ≡ refused 51
  unfolding read_at
  length_over h a = let z = some (omega arith) in simp tests

  pub kind_other : header ≤ left s at → length_at s at ≤ limit → (kind_at s at ≡ kind → ⊥) → read_at s at ≡ refused 52
  unfolding read_at
  kind_other h a b = let z = some (omega arith) in simp tests

  pub content_cut : header ≤ left s at → length_at s at ≤ limit → kind_at s at ≡ kind → left s (at + header) < length_at s at → read_at s at ≡ refused 53
  unfolding read_at
  content_cut h a b d = let z = some (omega arith) in simp tests

  whole : header ≤ left s at → length_at s at ≤ limit → kind_at s at ≡ kind → length_at s at ≤ left s (at + header)
      → read_at s at ≡ found (at + header) (length_at s at) (at + header + length_at s at)
  unfolding read_at
  whole h a b d = let z = some (omega arith) in simp tests

  pub read_whole : (n : ℕ) → length_at s at ≡ n → header ≤ left s at → n ≤ limit → kind_at s at ≡ kind → n ≤ left s (at + header)
      → read_at s at ≡ found (at + header) n (at + header + n)
  read_whole n e h a b d = whole h (omega arith) b (omega arith) ∙ ap (λ (k : ℕ). found (at + header) k (at + header + k)) e
