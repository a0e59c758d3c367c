-- What an octet says is small: counts under 4, and the bits of an unknown delimiter eight at most.
-- Assumes nothing.
use mathlib.Core.List.{List, [], ◌∷◌}
use Prim.Native.Nat.{ℕ, ◌≤◌, ◌<◌}
use native.Mathlib.Omega.{arith}
use Rattle.std.specs.Prelude.{Option, Some, None}
use lib.Dec.{eqb}
use Rattle.delimiters.specs.Delimiters.{meaning, distance_of, delimiter_of, fragment_of}
use Rattle.delimiters.specs.declared.Delimiter.{Delimiter}
use Rattle.delimiters.specs.declared.Delimiter.TheVariants as D
use Rattle.codes.specs.declared.FragmentCount.{FragmentCount}
use Rattle.rules.proofs.Tests.{chosen}
use Rattle.delimiters.proofs.Bits.{least_eight}

-- what holds of each meaning of a table, and of the other, holds of what an octet says
abbrev All : {A : Type 0} → (A → Type 0) → List A → Type 0
All P [] = Unit {0}
All P (x ∷ xs) = P x × All P xs

meant : {A : Type 0} (P : A → Type 0) (x : ℕ) (cs : List ℕ) (ms : List A) (other : A) → All P ms → P other → P (meaning x cs ms other)
unfolding meaning
meant P x [] ms other ps p = p
meant P x (c ∷ cs) [] other ps p = p
meant P x (c ∷ cs) (m ∷ ms) other ps p = chosen P (eqb x c) m _ ps.0 (meant P x cs ms other ps.1 p)

abbrev pub Small : Delimiter → Type 0
Small D.Express = Unit {0}
Small (D.Start n) = n.0 < 4
Small (D.Continuation n) = n.0 < 4
Small D.Verify = Unit {0}
Small D.Respond = Unit {0}
Small (D.Unknown bits) = bits ≤ 8

pub delimiter_small : (x : ℕ) → Small (delimiter_of x)
unfolding delimiter_of distance_of
delimiter_small x =
    let small : (0 < 4) × ((1 < 4) × ((2 < 4) × (3 < 4))) = (omega arith, (omega arith, (omega arith, omega arith))) in
    meant Small x _ _ _
    (tt, (small.0, (small.1.0, (small.1.1.0, (small.1.1.1, (small.0, (small.1.0, (small.1.1.0, (small.1.1.1, (tt, (tt, tt)))))))))))
    (least_eight _)

abbrev pub SmallFragment : Option FragmentCount → Type 0
SmallFragment (Some n) = n.0 < 4
SmallFragment None = Unit {0}

pub fragment_small : (x : ℕ) → SmallFragment (fragment_of x)
unfolding fragment_of
fragment_small x = meant SmallFragment x _ _ _ (omega arith, (omega arith, (omega arith, (omega arith, tt)))) tt
