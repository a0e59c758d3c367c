-- The verification record and its words say the same, both ways; what words that are a record's have.
-- Assumes nothing.
use mathlib.Core.Path.{◌≡◌, refl}
use mathlib.Core.Bool.{true}
use mathlib.Core.List.{List, [], ◌∷◌}
use Prim.Native.Nat.{ℕ, zero, suc, ◌≤◌}
use native.Mathlib.Omega.{arith}
use borrow.Author.Tests.{leb-true}
use lib.Dec.{leb}
use Rattle.verify_record.specs.Phases.{phase_number, phase_of}
use Rattle.verify_record.specs.declared.Phase.{Phase}
use Rattle.verify_record.specs.declared.Phase.TheVariants.{Off, Trying, Verified, Failed}
use Rattle.verify_record.specs.declared.Record.{Record as Link}
use Rattle.words.specs.Words.{word, is_flag, is_count}
use Rattle.words.proofs.Laws.{flag_read, flag_written}
use Rattle.verify_words.specs.Link.{link_words, link_fits, link_of}
use Rattle.rules.proofs.Tests.{both}

-- what five words that are a record's have
record Fits (w : List ℕ) : Type 0 where
  pub phase : word w 0 ≤ 3
  pub attempt : word w 1 ≤ 255
  pub left : word w 2 ≤ 255
  pub owed : word w 3 ≤ 1
  pub wait : word w 4 ≤ 255

fits : (w : List ℕ) → link_fits w ≡ true → Fits w
unfolding link_fits
fits w e =
    let a = both (leb (word w 0) 3) _ e in
    let b = both (is_count w 1) _ a.1 in
    let c = both (is_count w 2) _ b.1 in
    let d = both (is_flag w 3) (is_count w 4) c.1 in
    record {
      phase = leb-true _ _ a.0;
      attempt = leb-true _ _ b.0;
      left = leb-true _ _ c.0;
      owed = leb-true _ _ d.0;
      wait = leb-true _ _ d.1;
    }

-- what `link_of` asks of them
pub counts_known : (w : List ℕ) → link_fits w ≡ true → (word w 1 ≤ 255) × (word w 2 ≤ 255) × (word w 4 ≤ 255)
counts_known w e = let f = fits w e in (f.attempt, f.left, f.wait)

-- phases
phase_read : (p : Phase) → phase_of (phase_number p) ≡ p
phase_read Off = refl
phase_read Trying = refl
phase_read Verified = refl
phase_read Failed = refl

phase_written : (n : ℕ) → n ≤ 3 → phase_number (phase_of n) ≡ n
phase_written zero h = refl
phase_written (suc zero) h = refl
phase_written (suc (suc zero)) h = refl
phase_written (suc (suc (suc zero))) h = refl
phase_written (suc (suc (suc (suc n)))) h = absurd (let y : ⊥ = omega (arith, h) in y)

-- a record is read back from its words
pub link_read : (r : Link) → link_of (link_words r) ≡ r
link_read r = simp (phase_read r.phase, flag_read r.owed)

-- words that are a record's are what that record is written as
pub link_written : (p a l o n : ℕ) → let w = p ∷ a ∷ l ∷ o ∷ n ∷ [] in link_fits w ≡ true → link_words (link_of w) ≡ w
link_written p a l o n q =
    let f = fits (p ∷ a ∷ l ∷ o ∷ n ∷ []) q in
    simp (phase_written p f.phase, flag_written o f.owed)
