-- The line of an answer told another way.
-- Assumes nothing.
use mathlib.Core.Path.{◌≡◌}
use mathlib.Core.List.{List}
use Prim.Native.Nat.{ℕ}
use Rattle.receiver_answers.specs.Answers.{Said}
use Rattle.text.specs.Text.{Put}
use Rattle.lines.specs.Lines.{record_line}
use Rattle.listing.specs.Lists.{line_of}

pub line_as : (n : ℕ) {k d : ℕ} (s : Said) {at r : ℕ} {out out' : List ℕ} → k ≡ s.number → d ≡ s.detail
    → Put (record_line n k d) at out r out' → Put (line_of n s) at out r out'
line_as n s {at} {r} {out} {out'} e f p = rw (← e, ← f) p
