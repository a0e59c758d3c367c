-- Distances between octets: any two of the eleven delimiters differ in at least four bits, and the distance is the least.
-- Assumes nothing.
use mathlib.Core.Path.{◌≡◌}
use mathlib.Core.Bool.{Bool, true, false, ◌&&◌}
use mathlib.Core.List.{List, [], ◌∷◌, map}
use Prim.Native.Nat.{ℕ, zero, suc, ◌≤◌, ◌<◌}
use native.Mathlib.Nat.{le_of_suc-le-suc, not-suc-le-zero}
use native.Mathlib.Decide.{dec_lt}
use native.Mathlib.Omega.{arith}
use lib.Bits.{bit_xor, xor_lt}
use lib.Count.{ones, ones_in, ones-le}
use lib.Dec.{T, leb, ltb, leb→le, ltb→lt}
use lib.ListN.{length, drop, get_or}
use Rattle.codes.specs.Codes.{express_code}
use Rattle.delimiters.specs.Delimiters.{eleven, differing, least_of, distance_of}

-- a test of each of a list's octets, and of each two of them
abbrev every : (ℕ → Bool) → List ℕ → Bool
every f [] = true
every f (x ∷ xs) = f x && every f xs

abbrev pairs : (ℕ → ℕ → Bool) → List ℕ → Bool
pairs f [] = true
pairs f (x ∷ xs) = every (f x) xs && pairs f xs

left : (a b : Bool) → T (a && b) → T a
left true b t = tt
left false b t = t

right : (a b : Bool) → T (a && b) → T b
right true b t = t
right false b t = absurd t

every_at : (f : ℕ → Bool) (xs : List ℕ) → T (every f xs) → (k : ℕ) → k < length xs → T (f (get_or xs k 0))
every_at f [] t k h = absurd (not-suc-le-zero h)
every_at f (x ∷ xs) t zero h = left (f x) (every f xs) t
every_at f (x ∷ xs) t (suc k) h = every_at f xs (right (f x) (every f xs) t) k (le_of_suc-le-suc h)

pairs_at : (f : ℕ → ℕ → Bool) (xs : List ℕ) → T (pairs f xs) → (i j : ℕ) → i < j → j < length xs → T (f (get_or xs i 0) (get_or xs j 0))
pairs_at f xs t i zero h k = absurd (not-suc-le-zero h)
pairs_at f [] t i (suc j) h k = absurd (not-suc-le-zero k)
pairs_at f (x ∷ xs) t zero (suc j) h k = every_at (f x) xs (left (every (f x) xs) (pairs f xs) t) j (le_of_suc-le-suc k)
pairs_at f (x ∷ xs) t (suc i) (suc j) h k =
    pairs_at f xs (right (every (f x) xs) (pairs f xs) t) i j (le_of_suc-le-suc h) (le_of_suc-le-suc k)

-- "Any two of the eleven delimiters differ in at least four bits", by one computed test over the table
far : ℕ → ℕ → Bool
far x y = leb 4 (differing x y)

pub four_apart : (i j : ℕ) → i < j → j < 11 → 4 ≤ differing (get_or eleven i 0) (get_or eleven j 0)
unfolding far ones ones_in
four_apart i j h k = leb→le 4 _ (pairs_at far eleven tt i j h k)

-- the least of a list's distances: eight at most, no more than any, and one of them
pub least_eight : (ns : List ℕ) → least_of ns ≤ 8
unfolding least_of
least_eight [] = omega arith
least_eight (n ∷ ns) = omega (arith, least_eight ns)

below : (x : ℕ) (ds : List ℕ) (i : ℕ) → i < length ds → least_of (map (differing x) ds) ≤ differing x (get_or ds i 0)
unfolding least_of
below x [] i h = absurd (not-suc-le-zero h)
below x (d ∷ ds) zero h = omega arith
below x (d ∷ ds) (suc i) h = omega (arith, below x ds i (le_of_suc-le-suc h))

-- n is the least number of bits by which x differs from any of ds
pub record Nearest (x : ℕ) (ds : List ℕ) (n : ℕ) : Type 0 where
  pub reached : (i : ℕ) × ((i < length ds) × (differing x (get_or ds i 0) ≡ n))
  pub least : (i : ℕ) → i < length ds → n ≤ differing x (get_or ds i 0)

reached : (x d : ℕ) (ds : List ℕ) → ((i : ℕ) → i < length (d ∷ ds) → differing x (get_or (d ∷ ds) i 0) ≤ 8)
    → (i : ℕ) × ((i < length (d ∷ ds)) × (differing x (get_or (d ∷ ds) i 0) ≡ least_of (map (differing x) (d ∷ ds))))
unfolding least_of
reached x d [] h = (0, (omega arith, omega (arith, h 0 (omega arith))))
reached x d (e ∷ ds) h =
    let r = reached x e ds (λ i k. h (suc i) (omega arith)) in
    elim (dec_lt (least_of (map (differing x) (e ∷ ds))) (differing x d)) [
      | yes lt ↦ (suc r.0, (omega (arith, r.1.0), omega (arith, r.1.1)))
      | no le ↦ (0, (omega arith, omega arith))
    ]

-- the codes are octets
octet : ℕ → Bool
octet x = ltb x 256

eleven_lt : (i : ℕ) → i < 11 → get_or eleven i 0 < 256
unfolding octet
eleven_lt i h = ltb→lt _ 256 (every_at octet eleven tt i h)

pub nearest : (x : ℕ) → x < 256 → Nearest x eleven (distance_of x)
unfolding distance_of
nearest x h = record {
  reached = reached x express_code (drop 1 eleven) (λ i k. ones-le 8 (bit_xor x (get_or eleven i 0)) (xor_lt 8 x (get_or eleven i 0) h (eleven_lt i k)));
  least = below x eleven;
}
