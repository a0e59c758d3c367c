-- No second answer meets a promise of this crate.
-- Assumes nothing.
use mathlib.Core.Path.{◌≡◌, sym, ◌∙◌}
use mathlib.Core.Bool.{Bool, true}
use mathlib.Core.List.{List}
use Prim.Native.Nat.{ℕ, ◌<◌, ◌^◌}
use Rattle.std.specs.Prelude.{Option, SomeIff}
use Rattle.sender_record.specs.declared.Record.{Record}
use Rattle.words.proofs.Laws.{some_once}
use Rattle.sender_words.specs.Sender.{sender_words, sender_fits, sender_of}

-- sender_in
abbrev Read : List ℕ → Option Record → Type 0
Read w r = SomeIff r (sender_fits w ≡ true) (sender_of w)

pub sender_in_once : (w : List ℕ) (x y : Option Record) → Read w x → Read w y → x ≡ y
sender_in_once w = some_once _ _

-- what it tests, and what it then reads
pub sender_fits_once : (w : List ℕ) {x y : Bool} → x ≡ sender_fits w → y ≡ sender_fits w → x ≡ y
sender_fits_once w p q = p ∙ sym q

abbrev Short : List ℕ → Record → Type 0
Short w r = (r ≡ sender_of w) × ((r.length < 2 ^ 32) × (r.sent < 2 ^ 32))

pub sender_of_once : (w : List ℕ) {x y : Record} → Short w x → Short w y → x ≡ y
sender_of_once w p q = p.0 ∙ sym q.0

-- sender_words
pub sender_words_once : (r : Record) {x y : List ℕ} → x ≡ sender_words r → y ≡ sender_words r → x ≡ y
sender_words_once r p q = p ∙ sym q
