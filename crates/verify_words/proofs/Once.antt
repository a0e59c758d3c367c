-- No second answer meets a promise of this crate.
-- Assumes nothing.
use mathlib.Core.Path.{◌≡◌, sym, ◌∙◌}
use mathlib.Core.Bool.{Bool, true}
use mathlib.Core.List.{List}
use Prim.Native.Nat.{ℕ}
use Rattle.std.specs.Prelude.{Option, SomeIff}
use Rattle.verify_record.specs.declared.Record.{Record}
use Rattle.words.proofs.Laws.{some_once}
use Rattle.verify_words.specs.Link.{link_words, link_fits, link_of}

-- link_in
abbrev Read : List ℕ → Option Record → Type 0
Read w r = SomeIff r (link_fits w ≡ true) (link_of w)

pub link_in_once : (w : List ℕ) (x y : Option Record) → Read w x → Read w y → x ≡ y
link_in_once w = some_once _ _

-- what it tests, and what it then reads
pub link_fits_once : (w : List ℕ) {x y : Bool} → x ≡ link_fits w → y ≡ link_fits w → x ≡ y
link_fits_once w p q = p ∙ sym q

pub link_of_once : (w : List ℕ) {x y : Record} → x ≡ link_of w → y ≡ link_of w → x ≡ y
link_of_once w p q = p ∙ sym q

-- link_words
pub link_words_once : (r : Record) {x y : List ℕ} → x ≡ link_words r → y ≡ link_words r → x ≡ y
link_words_once r p q = p ∙ sym q
