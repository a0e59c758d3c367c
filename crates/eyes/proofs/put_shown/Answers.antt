-- `eyes::put_shown` meets its contract. The invariant: what is left, laid over the slice as it is now, makes the slice asked for.
use mathlib.Core.Path.{refl, sym, ap, ◌∙◌}
use native.Mathlib.Omega.{arith}
use lib.ListN.{length}
use Rattle.std.specs.Prelude.{Ok}
use Rattle.octets.specs.Laid.{laid}
use Rattle.trace.specs.Trace.{said}
use Rattle.pcap_headers.proofs.Laid.{records_room, header_first}
use Rattle.receiver_record.specs.declared.Record.{Record}
use Rattle.eyes.specs.Eyes.{shown_in}
use Rattle.eyes.proofs.Turns.{remaining, ends, stops, lies, part_length, left_over, after_is, turn}
use Rattle.eyes.proofs.put_shown.Goals as goal

pub put_file_header-requires : goal.put_file_header-requires
put_file_header-requires c =
    let a = c.args in
    let r = records_room (shown_in a.trace.now) a.out.now c.requires in
    omega (arith, r)

pub loop-span-init : goal.loop-span-init
loop-span-init c =
    let a = c.args in
    let r = records_room (shown_in a.trace.now) a.out.now c.requires in
    let same = ap (λ (q : Record). remaining a.trace.now q 0) c.fresh-record.ensures in
    (omega (arith, r, ap length same), refl, refl, ap (laid _ 24) same)

pub slice_bounds-content-count : goal.slice_bounds-content-count
slice_bounds-content-count c =
    let a = c.args in
    let l = c.loop-span in
    let s = a.trace.now in
    let e = sym c.read.ensures ∙ ap said (c.in-Ok-Some.is ∙ ap Ok c.in-Ok-Some.field-0-is) in
    let w = lies s l.from _ _ _ e in
    omega (arith, w.next_behind)

pub slice_bounds-content-start : goal.slice_bounds-content-start
slice_bounds-content-start c =
    let a = c.args in
    let l = c.loop-span in
    let s = a.trace.now in
    let e = sym c.read.ensures ∙ ap said (c.in-Ok-Some.is ∙ ap Ok c.in-Ok-Some.field-0-is) in
    let w = lies s l.from _ _ _ e in
    omega (arith, w.next_behind, w.inside)

pub slice_bounds-content-end : goal.slice_bounds-content-end
slice_bounds-content-end c =
    let a = c.args in
    let l = c.loop-span in
    let s = a.trace.now in
    let e = sym c.read.ensures ∙ ap said (c.in-Ok-Some.is ∙ ap Ok c.in-Ok-Some.field-0-is) in
    let w = lies s l.from _ _ _ e in
    omega (arith, w.next_behind, w.inside)

pub slice_bounds-put_shown_record-end : goal.slice_bounds-put_shown_record-end
slice_bounds-put_shown_record-end c = sym c.loop-span.invariant.2

pub put_shown_record-record-requires : goal.put_shown_record-record-requires
put_shown_record-record-requires c =
    let a = c.args in
    let l = c.loop-span in
    let s = a.trace.now in
    let e = sym c.read.ensures ∙ ap said (c.in-Ok-Some.is ∙ ap Ok c.in-Ok-Some.field-0-is) in
    let n = part_length s l.from _ _ _ e in
    (omega (arith, n, (lies s l.from _ _ _ e).within), omega (arith, n, left_over s l.from _ _ _ e l.«record», l.invariant.0))

pub overflow_add-at : goal.overflow_add-at
overflow_add-at c =
    let a = c.args in
    let l = c.loop-span in
    let s = a.trace.now in
    let e = sym c.read.ensures ∙ ap said (c.in-Ok-Some.is ∙ ap Ok c.in-Ok-Some.field-0-is) in
    omega (arith, (lies s l.from _ _ _ e).within)

pub overflow_add-at-in-Ok-Some : goal.overflow_add-at-in-Ok-Some
overflow_add-at-in-Ok-Some c =
    let a = c.args in
    let l = c.loop-span in
    let s = a.trace.now in
    let e = sym c.read.ensures ∙ ap said (c.in-Ok-Some.is ∙ ap Ok c.in-Ok-Some.field-0-is) in
    omega (arith, (lies s l.from _ _ _ e).within, left_over s l.from _ _ _ e l.«record», l.invariant.0, l.invariant.1, c.well_formed)

pub loop-span-smaller : goal.loop-span-smaller
loop-span-smaller c =
    let a = c.args in
    let l = c.loop-span in
    let s = a.trace.now in
    let e = sym c.read.ensures ∙ ap said (c.in-Ok-Some.is ∙ ap Ok c.in-Ok-Some.field-0-is) in
    let w = lies s l.from _ _ _ e in
    omega (arith, w.behind, w.next_behind)

pub loop-span-preserved : goal.loop-span-preserved
loop-span-preserved c =
    let a = c.args in
    let l = c.loop-span in
    let s = a.trace.now in
    let e = sym c.read.ensures ∙ ap said (c.in-Ok-Some.is ∙ ap Ok c.in-Ok-Some.field-0-is) in
    let shows = c.put_shown_record-record.ensures in
    let n = left_over s l.from _ _ _ e l.«record» in
    let r = ap (λ (q : Record). length (remaining s q c.in-Ok-Some.span.next)) (after_is s l.from _ _ _ e l.«record» l.invariant.2 shows l.invariant.0) in (
      omega (arith, n, r, l.invariant.0, l.invariant.1),
      omega (arith, l.invariant.1),
      omega (arith, l.invariant.2),
      turn s l.from _ _ _ e l.«record» l.invariant.2 shows l.invariant.0 _ refl ∙ l.invariant.3,
    )

pub shape_of-out-in-Ok-None : goal.shape_of-out-in-Ok-None
shape_of-out-in-Ok-None c = omega (arith, c.loop-span.invariant.1)

pub returns-in-Ok-None : goal.returns-in-Ok-None
returns-in-Ok-None c =
    let a = c.args in
    let l = c.loop-span in
    let s = a.trace.now in
    let e = sym c.read.ensures ∙ ap said (c.in-Ok-None.is ∙ ap Ok c.in-Ok-None.field-0-is) in
    sym (ends s l.«record» l.out l.from l.at e)
    ∙ l.invariant.3 ∙ header_first (shown_in s) a.out.now _ c.put_file_header.ensures (records_room (shown_in s) a.out.now c.requires)

pub shape_of-out-in-Err : goal.shape_of-out-in-Err
shape_of-out-in-Err c = omega (arith, c.loop-span.invariant.1)

pub returns-in-Err : goal.returns-in-Err
returns-in-Err c =
    let a = c.args in
    let l = c.loop-span in
    let s = a.trace.now in
    let e = sym c.read.ensures ∙ ap said c.in-Err.is in
    sym (stops s l.«record» l.out l.from l.at _ e)
    ∙ l.invariant.3 ∙ header_first (shown_in s) a.out.now _ c.put_file_header.ensures (records_room (shown_in s) a.out.now c.requires)
