-- No second outcome meets the promise of `listing::list`: no other record, buffer, place or line.
-- Assumes nothing.
use mathlib.Core.Path.{◌≡◌, sym, ◌∙◌}
use mathlib.Core.List.{List}
use Prim.Native.Nat.{ℕ}
use Rattle.text.specs.declared.Page.{Page}
use Rattle.text.proofs.Once.{puts_once}
use Rattle.receiver_record.specs.declared.Record.{Record}
use Rattle.listing.specs.Lists.{Lists}

pub list_once : (number : ℕ) (content : List ℕ) (r : Record) (b : List ℕ) (a : Page) {l m : Record} {p q : List ℕ} {x y : Page}
    → Lists number content r b a l p x → Lists number content r b a m q y
    → (l ≡ m) × ((p ≡ q) × ((x.out.ghost_name ≡ y.out.ghost_name) × ((x.at ≡ y.at) × (x.out.now ≡ y.out.now))))
list_once number content r b a f g = (f.after ∙ sym g.after, (f.buffer ∙ sym g.buffer, puts_once _ a f.line g.line))
