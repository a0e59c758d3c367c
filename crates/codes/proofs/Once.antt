-- No second answer meets a promise of this crate.
-- Assumes nothing.
use mathlib.Core.Path.{◌≡◌, sym, ◌∙◌}
use Prim.Native.Nat.{ℕ}
use Rattle.codes.specs.Codes.{next_frame, last_frame, next_fragment, start_code, continuation_code, fragment_code}
use Rattle.codes.specs.declared.FrameCount.{FrameCount}
use Rattle.codes.specs.declared.FragmentCount.{FragmentCount}

-- the methods of a frame count
module _ (n : FrameCount) where
  pub next_frame_once : {x y : FrameCount} → x ≡ next_frame n → y ≡ next_frame n → x ≡ y
  next_frame_once p q = p ∙ sym q

  pub last_frame_once : {x y : FrameCount} → x ≡ last_frame n → y ≡ last_frame n → x ≡ y
  last_frame_once p q = p ∙ sym q

  pub start_code_once : {x y : ℕ} → x ≡ start_code n → y ≡ start_code n → x ≡ y
  start_code_once p q = p ∙ sym q

  pub continuation_code_once : {x y : ℕ} → x ≡ continuation_code n → y ≡ continuation_code n → x ≡ y
  continuation_code_once p q = p ∙ sym q

-- the methods of a fragment count
module _ (n : FragmentCount) where
  pub next_fragment_once : {x y : FragmentCount} → x ≡ next_fragment n → y ≡ next_fragment n → x ≡ y
  next_fragment_once p q = p ∙ sym q

  pub fragment_code_once : {x y : ℕ} → x ≡ fragment_code n → y ≡ fragment_code n → x ≡ y
  fragment_code_once p q = p ∙ sym q
