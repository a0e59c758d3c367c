-- `gate_events::totals` meets its contract. The invariant: what was counted and what is left come to what the list comes to.
use mathlib.Core.Path.{◌≡◌, sym, ap, ◌∙◌}
use mathlib.Core.List.{List}
use Prim.Native.Nat.{◌-◌, ◌*◌}
use native.Mathlib.Omega.{arith}
use lib.ListN.{length}
use Rattle.gate_entries.specs.Entries.{size, Entry, operation, interval, entry_at}
use Rattle.gate_lists.specs.Lists.{entries_from}
use Rattle.gate_lists.proofs.Good.{octets_good}
use Rattle.gate_events.specs.Events.{sum_of, event_at, events_from}
use Rattle.gate_events.proofs.Turns.{as_many, sum_on, count_on, none_left}
use Rattle.gate_events.proofs.totals.Goals as goal

pub entry_at-entry-requires : goal.entry_at-entry-requires
entry_at-entry-requires c = let l = c.args.list in omega (arith, (octets_good l.octets.now l.entries l.judged).exact)

pub loop-i-preserved : goal.loop-i-preserved
loop-i-preserved c =
    let e = c.entry_at-entry.ensures in
    let l = c.loop-i in
    let n = c.args.list.entries in
    let s = c.args.list.octets.now in
    let h = c.loop-i-test.true in
    let t : c.wide-cycle.result ≡ interval (entry_at s (l.i * size)) = c.wide-cycle.ensures.0 ∙ ap interval e in
    let small = c.wide-cycle.ensures.1 in
    let k : c.counted-events.result ≡ length (event_at l.cycle (operation (entry_at s (l.i * size)))) =
    c.counted-events.ensures.0 ∙ ap (λ (x : Entry). length (event_at 0 (operation x))) e ∙ sym (as_many l.cycle (operation (entry_at s (l.i * size)))) in
    let sum = sum_on n s l.i h in
    let on = count_on n s l.i h l.cycle c.counted-events.result c.wide-cycle.result k t in (
      omega (arith, c.counted-events.ensures.1, l.invariant.0),
      omega (arith, small, l.invariant.1),
      omega (arith, on, l.invariant.2),
      omega (arith, sum, t, l.invariant.3),
    )

pub returns : goal.returns
unfolding events_from sum_of
returns c =
    let l = c.loop-i in
    let n = c.args.list.entries in
    let s = c.args.list.octets.now in
    let z = none_left n s l.i c.loop-i-test.false in
    let e : length (events_from l.cycle (entries_from (n - l.i) s l.i)) ≡ 0 = ap (λ (x : List Entry). length (events_from l.cycle x)) z in
    let t : sum_of (entries_from (n - l.i) s l.i) ≡ 0 = ap sum_of z in
    record { events = omega (arith, e, l.invariant.2); cycle = omega (arith, t, l.invariant.3) }
