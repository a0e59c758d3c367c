-- No second answer meets a promise of this crate.
-- Assumes nothing.
use mathlib.Core.Path.{◌≡◌, sym, ◌∙◌}
use mathlib.Core.Bool.{Bool, true}
use mathlib.Core.List.{List}
use Prim.Native.Nat.{ℕ, ◌<◌, ◌^◌}
use Rattle.std.specs.Prelude.{Option, SomeIff}
use Rattle.receiver_record.specs.declared.Record.{Record}
use Rattle.words.proofs.Laws.{some_once}
use Rattle.receiver_words.specs.Receiver.{receiver_words, receiver_fits, receiver_of}

-- receiver_in
abbrev Read : List ℕ → Option Record → Type 0
Read w r = SomeIff r (receiver_fits w ≡ true) (receiver_of w)

pub receiver_in_once : (w : List ℕ) (x y : Option Record) → Read w x → Read w y → x ≡ y
receiver_in_once w = some_once _ _

-- what it tests, and what it then reads
pub receiver_fits_once : (w : List ℕ) {x y : Bool} → x ≡ receiver_fits w → y ≡ receiver_fits w → x ≡ y
receiver_fits_once w p q = p ∙ sym q

pub receiver_of_once : (w : List ℕ) {x y : Record} → (x ≡ receiver_of w) × (x.kept < 2 ^ 32) → (y ≡ receiver_of w) × (y.kept < 2 ^ 32) → x ≡ y
receiver_of_once w p q = p.0 ∙ sym q.0

-- receiver_words
pub receiver_words_once : (r : Record) {x y : List ℕ} → x ≡ receiver_words r → y ≡ receiver_words r → x ≡ y
receiver_words_once r p q = p ∙ sym q
