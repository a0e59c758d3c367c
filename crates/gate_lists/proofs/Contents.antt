-- The entries of a list of octets, and the octets of entries: how many there are, and what stands first.
-- Assumes nothing.
use mathlib.Core.Path.{◌≡◌, refl, sym, ap, ◌∙◌}
use mathlib.Core.List.{List, [], ◌∷◌}
use Prim.Native.Nat.{ℕ, zero, suc, ◌+◌, ◌-◌, ◌*◌, ◌<◌}
use native.Mathlib.Omega.{arith}
use native.Mathlib.Numerals.{add-one}
use lib.ListN.{length}
use Rattle.gate_entries.specs.Entries.{size, Entry, entry_at, entry_octets}
use Rattle.gate_lists.specs.Lists.{entries_from, octets_of_all}

-- as many as were asked for
pub length_from : (n : ℕ) (s : List ℕ) (k : ℕ) → length (entries_from n s k) ≡ n
unfolding entries_from
length_from zero s k = refl
length_from (suc n) s k = ap suc (length_from n s (suc k))

-- what is left is the next entry and what is left behind it
pub next : (n : ℕ) (s : List ℕ) (i : ℕ) → i < n → entries_from (n - i) s i ≡ entry_at s (i * size) ∷ entries_from (n - (i + 1)) s (i + 1)
unfolding entries_from
next n s i h =
    let m : n - i ≡ suc (n - (i + 1)) = omega arith in
    ap (λ (x : ℕ). entries_from x s i) m ∙ ap (λ (x : ℕ). entry_at s (i * size) ∷ entries_from (n - (i + 1)) s x) (sym (add-one i))

-- seven octets for each entry
pub length_all : (es : List Entry) → length (octets_of_all es) ≡ length es * size
unfolding octets_of_all entry_octets
length_all [] = refl
length_all (e ∷ es) = let r = length_all es in omega arith
