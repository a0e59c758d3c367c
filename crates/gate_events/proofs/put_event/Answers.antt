-- `gate_events::put_event` meets its contract.
use mathlib.Core.Path.{◌≡◌, sym, ap, ◌∙◌}
use Prim.Native.Nat.{ℕ}
use native.Mathlib.Omega.{arith}
use lib.ListN.{length, set}
use Rattle.octets.specs.Laid.{laid}
use Rattle.octets.proofs.Laid.{laid_none, set_one}
use Rattle.gate_events.specs.Events.{event, event_at}
use Rattle.gate_events.proofs.Turns.{none_at, one_at, as_many}
use Rattle.gate_events.proofs.put_event.Goals as goal

pub returns-then-operation-eq0 : goal.returns-then-operation-eq0
returns-then-operation-eq0 c =
    let a = c.args in
    let none = none_at a.time a.operation c.if-operation-eq0.true in
    let l : length (event_at a.time a.operation) ≡ 0 = ap length none in
    record { place = omega arith; output = sym (ap (laid a.events.now a.at) none ∙ laid_none a.events.now a.at) }

pub bounds-events-at : goal.bounds-events-at
bounds-events-at c =
    let a = c.args in
    let l : length (event_at 0 a.operation) ≡ 1 = ap length (one_at 0 a.operation c.if-operation-eq0.false) in
    omega (arith, c.requires.1)

pub returns : goal.returns
returns c =
    let a = c.args in
    let one = one_at a.time a.operation c.if-operation-eq0.false in
    let l : length (event_at a.time a.operation) ≡ 1 = ap length one in
    let z = as_many a.time a.operation in
    record {
      place = omega arith;
      output =
          ap (λ (o : ℕ). set a.events.now a.at (event a.time o)) c.from.ensures
          ∙ set_one a.events.now a.at (event a.time a.operation) (omega (arith, c.requires.1))
          ∙ ap (laid a.events.now a.at) (sym one);
    }
