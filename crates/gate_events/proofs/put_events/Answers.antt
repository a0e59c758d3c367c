-- `gate_events::put_events` meets its contract. The invariant: what is left, laid over the slice as it is now, makes the slice asked for.
use mathlib.Core.Path.{◌≡◌, refl, sym, ap, ◌∙◌}
use mathlib.Core.List.{List}
use Prim.Native.Nat.{ℕ, ◌*◌}
use native.Mathlib.Omega.{arith}
use lib.ListN.{length, get_or}
use Rattle.octets.specs.Laid.{laid}
use Rattle.octets.proofs.Laid.{laid_front, laid_none}
use Rattle.gate_entries.specs.Entries.{size, Entry, operation, interval, entry_at}
use Rattle.gate_lists.specs.Lists.{entries_from}
use Rattle.gate_lists.proofs.Good.{octets_good}
use Rattle.gate_events.specs.Events.{event_at, events_from}
use Rattle.gate_events.proofs.Turns.{as_many, one_most, count_on, put_on, none_left}
use Rattle.gate_events.proofs.put_events.Goals as goal

pub entry_at-entry-requires : goal.entry_at-entry-requires
entry_at-entry-requires c = let l = c.args.list in omega (arith, (octets_good l.octets.now l.entries l.judged).exact)

pub put_event-next-requires : goal.put_event-next-requires
put_event-next-requires c =
    let l = c.loop-i in
    let n = c.args.list.entries in
    let s = c.args.list.octets.now in
    let b = (octets_good s n c.args.list.judged).bound in
    let k : length (event_at 0 (get_or c.entry_at-entry.result 0 0)) ≡ length (event_at l.time (operation (entry_at s (l.i * size)))) =
    ap (λ (x : Entry). length (event_at 0 (operation x))) c.entry_at-entry.ensures ∙ sym (as_many l.time (operation (entry_at s (l.i * size)))) in
    let on = count_on n s l.i c.loop-i-test.true l.time _ _ k refl in
    (omega (arith, b, l.invariant.0), omega (arith, on, l.invariant.3))

pub loop-i-preserved : goal.loop-i-preserved
loop-i-preserved c =
    let p = c.put_event-next.ensures in
    let e = c.entry_at-entry in
    let l = c.loop-i in
    let n = c.args.list.entries in
    let s = c.args.list.octets.now in
    let h = c.loop-i-test.true in
    let o : get_or e.result 0 0 ≡ operation (entry_at s (l.i * size)) = ap operation e.ensures in
    let t : c.wide-time.result ≡ interval (entry_at s (l.i * size)) = c.wide-time.ensures.0 ∙ ap interval e.ensures in
    let small = c.wide-time.ensures.1 in
    let on = count_on n s l.i h l.time _ _ (ap (λ (x : ℕ). length (event_at l.time x)) o) t in
    let kept = c.put_event-next.auto.events in (
      omega (arith, p.place, one_most l.time (get_or e.result 0 0), l.invariant.0),
      omega (arith, small, l.invariant.1),
      omega (arith, kept, l.invariant.2),
      omega (arith, kept, on, p.place, l.invariant.3),
      put_on n s l.i h l.events l.next l.time _ _ p.output p.place o t l.invariant.3 ∙ l.invariant.4,
    )

pub returns : goal.returns
unfolding events_from
returns c =
    let l = c.loop-i in
    let n = c.args.list.entries in
    let s = c.args.list.octets.now in
    let z = none_left n s l.i c.loop-i-test.false in
    sym (ap (λ (x : List Entry). laid l.events l.next (events_from l.time x)) z ∙ laid_none l.events l.next)
    ∙ l.invariant.4 ∙ laid_front c.args.events.now (events_from 0 (entries_from n s 0))
