-- "The last four octets decide" (document 01, "Receiving"): FCS over the frame so far means done, mCRC means more to come, else damaged.
-- Assumes nothing.
use Rattle.std.specs.Prelude.{Bool, true, false, cond, ◌&&◌, List, [], ◌∷◌, ℕ, ◌-◌, eqb, length, take, drop}
use Rattle.crc.specs.Crc.{register_over, fcs_of, mcrc_of}
use Rattle.endings.specs.declared.Ending.{Ending}
use Rattle.endings.specs.declared.Ending.TheVariants.{Done, More, Damaged}

-- the data octets, and the last four; all are last where there are fewer
abbrev pub data_of : List ℕ → List ℕ
data_of s = take (length s - 4) s

abbrev pub last_four : List ℕ → List ℕ
last_four s = drop (length s - 4) s

-- whether two lists have the same octets
unfoldable pub same : List ℕ → List ℕ → Bool
same [] [] = true
same [] (y ∷ ys) = false
same (x ∷ xs) [] = false
same (x ∷ xs) (y ∷ ys) = eqb x y && same xs ys

-- what the octets last say of a frame after n more data octets, which left the register r
unfoldable pub decided : ℕ → ℕ → List ℕ → Ending
decided r n last = cond (same last (fcs_of r)) (Done n) (cond (same last (mcrc_of r)) (More n r) Damaged)

-- what data and check octets say of a frame whose octets before them left the register r
abbrev pub ending_of : ℕ → List ℕ → Ending
ending_of r s = decided (register_over r (data_of s)) (length s - 4) (last_four s)
