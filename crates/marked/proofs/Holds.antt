-- The marked examples hold, as one statement: asked of the definitions, each gives what the paper says.
-- Assumes nothing.
use mathlib.Core.Path.{◌≡◌, refl}
use mathlib.Core.List.{map}
use lib.Count.{ones, ones_in}
use Rattle.fours.specs.Word.{octets_of}
use Rattle.crc.specs.Crc.{bit_step, bit_steps, octet_step, register_over, fcs_of, mcrc_of}
use Rattle.delimiters.specs.Delimiters.{least_of, distance_of}
use Rattle.cut.specs.Cut.{lawful, first_of, part_of}
use Rattle.marked.specs.Table.{Example, answer, table}

pub marked : map (λ (e : Example). answer e.asked) table ≡ map (λ (e : Example). e.says) table
unfolding octets_of bit_step bit_steps octet_step register_over fcs_of mcrc_of ones ones_in least_of distance_of lawful first_of part_of
marked = refl
