-- `holds::write` is safe: 256 events and the last line have room.
use Rattle.std.proofs.Common.{arith}
use lib.ListN.{length-take}
use Rattle.hold_lines.proofs.Laws.{all_end}
use Rattle.holds.proofs.write.Goals as goal

pub slice_bounds-out-end : goal.slice_bounds-out-end
slice_bounds-out-end c = omega (arith, all_end _ _ c.all_lines-end.ensures)

pub slice_bounds-write_all-end : goal.slice_bounds-write_all-end
slice_bounds-write_all-end c = let d = c.all_lines-end in omega (arith, all_end _ _ d.ensures, length-take d.result d.new.out)
