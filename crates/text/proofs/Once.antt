-- No second place and no other octets meet a promise of this crate.
-- Assumes nothing.
use mathlib.Core.Path.{◌≡◌, sym, ◌∙◌}
use mathlib.Core.List.{List}
use Prim.Native.Nat.{ℕ}
use Rattle.text.specs.Text.{Put}
use Rattle.text.specs.Pages.{Puts}
use Rattle.text.specs.declared.Page.{Page}

-- No second answer meets a promise of this crate.
pub put_once : (p : List ℕ) (at : ℕ) (out : List ℕ) {r s : ℕ} {x y : List ℕ} → Put p at out r x → Put p at out s y → (r ≡ s) × (x ≡ y)
put_once p at out a b = (a.place ∙ sym b.place, a.octets ∙ sym b.octets)

-- the same on a page: no other memory is lent behind it, and in that no other octets stand and no other place is next
pub puts_once : (p : List ℕ) (a : Page) {b c : Page} → Puts p a b → Puts p a c → (b.out.ghost_name ≡ c.out.ghost_name) × ((b.at ≡ c.at) × (b.out.now ≡ c.out.now))
puts_once p a f g = (f.memory ∙ sym g.memory, put_once p a.at a.out.now f.put g.put)
