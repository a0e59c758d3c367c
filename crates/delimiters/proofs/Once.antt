-- No second answer meets a promise of this crate.
-- Assumes nothing.
use mathlib.Core.Path.{◌≡◌, sym, ◌∙◌}
use Prim.Native.Nat.{ℕ}
use Rattle.std.specs.Prelude.{Option}
use Rattle.delimiters.specs.Delimiters.{distance_of, delimiter_of, fragment_of}
use Rattle.delimiters.specs.declared.Delimiter.{Delimiter}
use Rattle.codes.specs.declared.FragmentCount.{FragmentCount}

-- what an octet says
module _ (octet : ℕ) where
  pub distance_once : {x y : ℕ} → x ≡ distance_of octet → y ≡ distance_of octet → x ≡ y
  distance_once p q = p ∙ sym q

  pub delimiter_of_once : {x y : Delimiter} → x ≡ delimiter_of octet → y ≡ delimiter_of octet → x ≡ y
  delimiter_of_once p q = p ∙ sym q

  pub fragment_of_once : {x y : Option FragmentCount} → x ≡ fragment_of octet → y ≡ fragment_of octet → x ≡ y
  fragment_of_once p q = p ∙ sym q
