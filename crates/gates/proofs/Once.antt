-- No second answer meets a promise of this crate: neither another answer nor other words or octets in the memory lent.
-- Assumes nothing.
use mathlib.Core.Path.{◌≡◌, refl, sym, ap, ap₂, ◌∙◌}
use mathlib.Core.List.{List}
use Prim.Native.Nat.{ℕ}
use lib.ListN.{length}
use Rattle.gate_entries.specs.Entries.{Entry}
use Rattle.gate_lists.specs.Lists.{said}
use Rattle.std.specs.Prelude.{Result, Ok, Err}
use Rattle.gate_lists.specs.declared.Error.{Error}
use Rattle.gate_lists.proofs.Once.{said_one}
use Rattle.gate_events.specs.Events.{Event}
use Rattle.gate_events.specs.declared.Total.{Total}
use Rattle.gates.specs.Gates.{Outcome, Met, read_of, write_of, events_of, cycle_of, counted, told_cycle}

one : {A : Type 0} (p : Outcome A) (out : List A) {x y : Result ℕ Error} {out' out'' : List A} → Met p out (said x) out' → Met p out (said y) out'' → (x ≡ y) × (out' ≡ out'')
one p out m n = (said_one (m.answer ∙ sym n.answer), m.output ∙ sym n.output)

-- read_list
pub read_list_once : (s : List ℕ) (out : List Entry) {x y : Result ℕ Error} {out' out'' : List Entry}
    → Met (read_of s (length out)) out (said x) out' → Met (read_of s (length out)) out (said y) out'' → (x ≡ y) × (out' ≡ out'')
read_list_once s out m n = one (read_of s (length out)) out m n

-- write_list
pub write_list_once : (es : List Entry) (out : List ℕ) {x y : Result ℕ Error} {out' out'' : List ℕ}
    → Met (write_of es (length out)) out (said x) out' → Met (write_of es (length out)) out (said y) out'' → (x ≡ y) × (out' ≡ out'')
write_list_once es out m n = one (write_of es (length out)) out m n

-- list_events: how many events and the length of the cycle give the answer back
abbrev listed_of : Result ℕ Error → ℕ → Result Total Error
listed_of (Ok n) t = Ok (record { events = n; cycle = t })
listed_of (Err e) t = Err e

back : (x : Result Total Error) → listed_of (counted x) (told_cycle x) ≡ x
back (Ok t) = refl
back (Err e) = refl

pub list_events_once : (s : List ℕ) (out : List Event) {x y : Result Total Error} {out' out'' : List Event}
    → Met (events_of s (length out)) out (said (counted x)) out' → told_cycle x ≡ cycle_of (said (counted x)) s
    → Met (events_of s (length out)) out (said (counted y)) out'' → told_cycle y ≡ cycle_of (said (counted y)) s → (x ≡ y) × (out' ≡ out'')
list_events_once s out {x} {y} m c n d =
    let e = one (events_of s (length out)) out m n in
    let k : told_cycle x ≡ told_cycle y = c ∙ ap (λ (a : Result ℕ Error). cycle_of (said a) s) e.0 ∙ sym d in
    (sym (back x) ∙ ap₂ listed_of e.0 k ∙ back y, e.1)
