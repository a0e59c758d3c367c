-- `pcap::answer_for` meets its contract.
use mathlib.Core.Path.{refl, sym, ap, ◌∙◌}
use mathlib.Core.List.{[]}
use native.Mathlib.Omega.{arith}
use Rattle.trace_layout.specs.Layout.{read_all}
use Rattle.pcap_headers.specs.Headers.{capture_of}
use Rattle.pcap_lists.specs.Lists.{said}
use Rattle.pcap.proofs.Laws.{short_in_room, beyond_in_room, good_in_room}
use Rattle.pcap.proofs.Lengths.{captured}
use Rattle.pcap.proofs.answer_for.Goals as goal

pub returns-in-None : goal.returns-in-None
returns-in-None c =
    let s = c.args.trace.now in
    let g = sym c.count.ensures ∙ ap said c.in_ok-records.was in
    let w = captured s _ (λ k. omega (arith, c.type_inv.trace k)) g in
    (beyond_in_room (capture_of (read_all s).contents) [] c.args.room _ _ g (omega (arith, c.in-None.ensures, w.octets)) (omega (arith, c.ranges.room))).answer

pub returns-then-room-octets : goal.returns-then-room-octets
returns-then-room-octets c =
    let s = c.args.trace.now in
    let g = sym c.count.ensures ∙ ap said c.in_ok-records.was in
    let w = captured s _ (λ k. omega (arith, c.type_inv.trace k)) g in
    let t = c.in-Some.ensures in
    (short_in_room (capture_of (read_all s).contents) [] c.args.room _ _ _ g (omega (arith, t, w.octets)) (omega arith) (omega (arith, t, w.octets, c.if-room-octets.true))).answer

pub returns-else-room-octets : goal.returns-else-room-octets
returns-else-room-octets c =
    let s = c.args.trace.now in
    let g = sym c.count.ensures ∙ ap said c.in_ok-records.was in
    let w = captured s _ (λ k. omega (arith, c.type_inv.trace k)) g in
    let t = c.in-Some.ensures in
    (good_in_room (capture_of (read_all s).contents) [] c.args.room _ _ _ g (omega (arith, t, w.octets)) (omega (arith, t, w.octets, c.if-room-octets.false)) refl).answer
