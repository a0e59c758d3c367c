-- What a call that puts text on a page promises. Assumes nothing.
use Rattle.std.specs.Prelude.{◌≡◌, List, ℕ, length}
use Rattle.text.specs.Text.{Put}
use Rattle.text.specs.declared.Page.{Page}

-- the text p stands on the page a from its place on, all else is kept, and b is the page behind it: the same lent memory, as long as it was
pub record Puts (p : List ℕ) (a b : Page) : Type 0 where
  pub memory : b.out.ghost_name ≡ a.out.ghost_name
  pub long : length b.out.now ≡ length a.out.now
  pub put : Put p a.at a.out.now b.at b.out.now
