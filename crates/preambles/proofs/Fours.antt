-- The preamble as two numbers, of places 0 to 3 and of places 2 to 5.
-- Assumes nothing.
use mathlib.Core.Path.{◌≡◌}
use mathlib.Core.List.{List}
use Prim.Native.Nat.{ℕ, ◌+◌, ◌≤◌, ◌<◌}
use native.Mathlib.Omega.{arith}
use lib.ListN.{length, get_or}
use Rattle.fours.specs.Word.{word_of, word_at}
use Rattle.preambles.specs.Preamble.{Front}
use Rattle.preambles.proofs.Leading.{one_more}

abbrev four55 : ℕ
four55 = 0x55555555

-- four octets that make that number are 55
word_55 : (a b c d : ℕ) → a < 256 → b < 256 → c < 256 → d < 256 → word_of a b c d ≡ four55
    → (a ≡ 0x55) × ((b ≡ 0x55) × ((c ≡ 0x55) × (d ≡ 0x55)))
word_55 a b c d ha hb hc hd e = (omega arith, (omega arith, (omega arith, omega arith)))

module _ (m : List ℕ) where
  pub none : Front m 0
  none = record { few = omega arith; within = omega arith; counted = omega arith }

  -- one more
  pub onward : {n : ℕ} → Front m n → n < 8 → n < length m → get_or m n 0 ≡ 0x55 → Front m (n + 1)
  onward {n} f h k e = record { few = omega arith; within = omega arith; counted = omega (arith, f.counted, one_more m n k e) }

  module _ (h : 6 ≤ length m) (octet : (k : ℕ) → get_or m k 0 < 256) (first : word_at m 0 ≡ four55) where
    pub four : Front m 4
    four =
        let w = word_55 (get_or m 0 0) (get_or m 1 0) (get_or m 2 0) (get_or m 3 0) (octet 0) (octet 1) (octet 2) (octet 3) first in
        let two = onward (onward none (omega arith) (omega arith) w.0) (omega arith) (omega arith) w.1.0 in
        onward (onward two (omega arith) (omega arith) w.1.1.0) (omega arith) (omega arith) w.1.1.1

    pub six : word_at m 2 ≡ four55 → Front m 6
    six second =
        let w = word_55 (get_or m 2 0) (get_or m 3 0) (get_or m 4 0) (get_or m 5 0) (octet 2) (octet 3) (octet 4) (octet 5) second in
        onward (onward four (omega arith) (omega arith) w.1.1.0) (omega arith) (omega arith) w.1.1.1
