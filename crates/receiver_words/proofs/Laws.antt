-- The receiving record and its words say the same, both ways; what words that are a record's have.
-- Assumes nothing.
use mathlib.Core.Path.{◌≡◌}
use mathlib.Core.Bool.{true}
use mathlib.Core.List.{List, [], ◌∷◌}
use Prim.Native.Nat.{ℕ, ◌≤◌}
use borrow.Author.Tests.{leb-true}
use Rattle.receiver_record.specs.declared.Record.{Record as Receiver}
use Rattle.words.specs.Words.{word, is_flag, is_count}
use Rattle.words.proofs.Laws.{flag_read, flag_written}
use Rattle.receiver_words.specs.Receiver.{receiver_words, receiver_fits, receiver_of}
use Rattle.rules.proofs.Tests.{both}

-- what nine words that are a record's have
pub record Counts (w : List ℕ) : Type 0 where
  pub frame : word w 1 ≤ 255
  pub fragment : word w 2 ≤ 255

pub counts_known : (w : List ℕ) → receiver_fits w ≡ true → Counts w
unfolding receiver_fits
counts_known w e =
    let a = both (is_flag w 0) _ e in
    let b = both (is_count w 1) (is_count w 2) a.1 in
    record { frame = leb-true _ _ b.0; fragment = leb-true _ _ b.1 }

-- a record is read back from its words
pub receiver_read : (r : Receiver) → receiver_of (receiver_words r) ≡ r
receiver_read r = simp (flag_read r.assembling)

-- words that are a record's are what that record is written as
pub receiver_written : (a f g k c e d m n : ℕ) → let w = a ∷ f ∷ g ∷ k ∷ c ∷ e ∷ d ∷ m ∷ n ∷ [] in receiver_fits w ≡ true → receiver_words (receiver_of w) ≡ w
unfolding receiver_fits
receiver_written a f g k c e d m n q =
    let w = a ∷ f ∷ g ∷ k ∷ c ∷ e ∷ d ∷ m ∷ n ∷ [] in
    simp (flag_written a (leb-true _ _ (both (is_flag w 0) _ q).0))
