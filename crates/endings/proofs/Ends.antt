-- The last four octets as one number.
-- Assumes nothing.
use mathlib.Core.Path.{◌≡◌, ap, ◌∙◌}
use mathlib.Core.List.{List}
use Prim.Native.Nat.{ℕ, ◌-◌, ◌≤◌, ◌<◌}
use native.Mathlib.Omega.{arith}
use lib.ListN.{length, get_or, length-drop}
use lib.Seq.{take_all}
use Rattle.fours.specs.Word.{word_at, octets_of}
use Rattle.fours.proofs.Words.{octets_of_word}
use Rattle.endings.specs.Judge.{last_four}

-- the last four octets are those of the last word
pub last_word : (s : List ℕ) → ((k : ℕ) → get_or s k 0 < 256) → 4 ≤ length s → (w : ℕ) → w ≡ word_at s (length s - 4) → octets_of w ≡ last_four s
last_word s o h w e =
    ap octets_of e ∙ octets_of_word s o (length s - 4) (omega arith)
    ∙ take_all 4 (last_four s) (let g : length (last_four s) ≤ 4 = simp length-drop (omega arith) in g)
