-- The sending record and its words say the same, both ways; what words that are a record's have.
-- Assumes nothing.
use mathlib.Core.Path.{◌≡◌}
use mathlib.Core.Bool.{true}
use mathlib.Core.List.{List, [], ◌∷◌}
use Prim.Native.Nat.{ℕ, ◌≤◌}
use borrow.Author.Tests.{leb-true}
use Rattle.sender_record.specs.declared.Record.{Record}
use Rattle.words.specs.Words.{word, is_flag, is_count}
use Rattle.words.proofs.Laws.{flag_read, flag_written}
use Rattle.sender_words.specs.Sender.{sender_words, sender_fits, sender_of}
use Rattle.rules.proofs.Tests.{both}

-- what seven words that are a record's have
pub record Counts (w : List ℕ) : Type 0 where
  pub extra : word w 2 ≤ 255
  pub next : word w 3 ≤ 255
  pub fragment : word w 6 ≤ 255

pub counts_known : (w : List ℕ) → sender_fits w ≡ true → Counts w
unfolding sender_fits
counts_known w e =
    let a = both (is_flag w 0) _ e in
    let b = both (is_flag w 1) _ a.1 in
    let c = both (is_count w 2) _ b.1 in
    let d = both (is_count w 3) (is_count w 6) c.1 in
    record { extra = leb-true _ _ c.0; next = leb-true _ _ d.0; fragment = leb-true _ _ d.1 }

-- a record is read back from its words
pub sender_read : (r : Record) → sender_of (sender_words r) ≡ r
sender_read r = simp (flag_read r.active, flag_read r.hold)

-- words that are a record's are what that record is written as
pub sender_written : (a h e n l s f : ℕ) → let w = a ∷ h ∷ e ∷ n ∷ l ∷ s ∷ f ∷ [] in sender_fits w ≡ true → sender_words (sender_of w) ≡ w
unfolding sender_fits
sender_written a h e n l s f q =
    let w = a ∷ h ∷ e ∷ n ∷ l ∷ s ∷ f ∷ [] in
    let x = both (is_flag w 0) _ q in
    let y = both (is_flag w 1) _ x.1 in
    simp (flag_written a (leb-true _ _ x.0), flag_written h (leb-true _ _ y.0))
