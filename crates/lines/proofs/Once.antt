-- No second place and no other octets meet a promise of this crate: what `Puts` says of a page is `Put` of its memory and place.
-- Assumes nothing.
use mathlib.Core.Path.{◌≡◌}
use mathlib.Core.List.{List}
use Prim.Native.Nat.{ℕ}
use Rattle.text.specs.Text.{Put}
use Rattle.text.proofs.Once.{put_once}
use Rattle.lines.specs.Lines.{title_line, record_line, stop_line, end_line}

module _ (at : ℕ) (out : List ℕ) {r s : ℕ} {x y : List ℕ} where
  -- title
  pub title_once : Put title_line at out r x → Put title_line at out s y → (r ≡ s) × (x ≡ y)
  title_once = put_once title_line at out

  -- record_line
  pub record_line_once : (number answer detail : ℕ) → let p = record_line number answer detail in Put p at out r x → Put p at out s y → (r ≡ s) × (x ≡ y)
  record_line_once number answer detail = put_once (record_line number answer detail) at out

  -- stop_line
  pub stop_line_once : (number refusal : ℕ) → let p = stop_line number refusal in Put p at out r x → Put p at out s y → (r ≡ s) × (x ≡ y)
  stop_line_once number refusal = put_once (stop_line number refusal) at out

  -- end_line
  pub end_line_once : (errors delimiters assembled fragments : ℕ) → let p = end_line errors delimiters assembled fragments in
      Put p at out r x → Put p at out s y → (r ≡ s) × (x ≡ y)
  end_line_once errors delimiters assembled fragments = put_once (end_line errors delimiters assembled fragments) at out
