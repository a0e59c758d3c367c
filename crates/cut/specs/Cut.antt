-- The cut of document 01, "Sending", with L, s, t and n as the paper has them, and m as document 02, (ii) has it. Assumes nothing.
use Rattle.std.specs.Prelude.{Bool, cond, ◌&&◌, ℕ, zero, suc, ◌+◌, ◌-◌, ◌*◌, leb, Option, Some, None}

-- "IEEE 802.3br counts the mCRC in that minimum, so m becomes 64 × (1 + extra) − 4"
abbrev pub minimum : ℕ → ℕ
minimum extra = 64 * (1 + extra) - 4

-- "A lawful cut is a number n with n ≥ t, n ≥ m and L − s − n ≥ 64"
unfoldable pub lawful : ℕ → ℕ → ℕ → ℕ → ℕ → Bool
lawful L s m t n = leb t n && (leb m n && leb 64 (L - s - n))

-- the least of k numbers from n on that passes the test, found by trying one after the other; none where none does
unfoldable pub first_of : (ℕ → Bool) → ℕ → ℕ → Option ℕ
first_of test zero n = None
first_of test (suc k) n = let later = first_of test k (suc n) in cond (test n) (Some n) later

-- "With an ask, the mFrame carries the least lawful n .. it runs to the frame's end exactly if no lawful cut exists, or if there is no
-- ask": Some n is a cut after n octets, None is no cut, or no ask. A lawful cut is below L.
unfoldable pub part_of : ℕ → ℕ → ℕ → Option ℕ → Option ℕ
part_of L s m None = None
part_of L s m (Some t) = first_of (lawful L s m t) L 0
