-- An ask and what a sending call says, as words of 32 bits.
-- Assumes nothing.
use Rattle.std.specs.Prelude.{cond, List, [], ◌∷◌, ℕ, ◌<◌, ◌^◌, eqb, Option, Some, None}
use Rattle.sender_answers.specs.Answers.{Said, wrote, refused}
use Rattle.words.specs.Words.{flag}

-- 0 where an mFrame was written, else the refusal's number
abbrev pub number_of : Said → ℕ
number_of (wrote n done) = 0
number_of (refused k) = k

-- the mFrame's length and whether the frame is done; both 0 where nothing was written
abbrev pub written_of : Said → List ℕ
written_of (wrote n done) = n ∷ flag done ∷ []
written_of (refused k) = 0 ∷ 0 ∷ []

-- what a word holds
abbrev pub Short : Said → Type 0
Short (wrote n done) = n < 2 ^ 32
Short (refused k) = Unit {0}

-- the greatest number of 64 bits stands for no ask
abbrev pub no_ask : ℕ
no_ask = 0xFFFF_FFFF_FFFF_FFFF

abbrev pub ask_of : ℕ → Option ℕ
ask_of t = cond (eqb t no_ask) None (Some t)
