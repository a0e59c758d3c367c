-- No second answer meets a promise of this crate.
-- Assumes nothing.
use mathlib.Core.Path.{◌≡◌, sym, ap₂, ◌∙◌}
use mathlib.Core.List.{List}
use Prim.Native.Nat.{ℕ}
use lib.ListN.{length}
use Rattle.octets.specs.Laid.{over}
use Rattle.gate_lists.specs.Lists.{entries_from}
use Rattle.gate_events.specs.Events.{Event, sum_of, events_from}
use Rattle.gate_events.specs.declared.Total.{Total}

-- totals
pub totals_once : (s : List ℕ) (n : ℕ) {x y : Total}
    → x.events ≡ length (events_from 0 (entries_from n s 0)) → x.cycle ≡ sum_of (entries_from n s 0)
    → y.events ≡ length (events_from 0 (entries_from n s 0)) → y.cycle ≡ sum_of (entries_from n s 0) → x ≡ y
totals_once s n p q r t = ap₂ (λ (e c : ℕ). record { events = e; cycle = c }) (p ∙ sym r) (q ∙ sym t)

-- put_events: each word of the memory lent
pub put_events_once : (s : List ℕ) (n : ℕ) (out : List Event) {x y : List Event}
    → x ≡ over (events_from 0 (entries_from n s 0)) out → y ≡ over (events_from 0 (entries_from n s 0)) out → x ≡ y
put_events_once s n out p q = p ∙ sym q
