-- What holds of a receiver that was given any mFrames at all, from a fresh record and with any buffer.
-- Assumes nothing.
use mathlib.Core.Path.{◌≡◌, refl}
use mathlib.Core.Bool.{true, false≢true}
use mathlib.Core.List.{List, [], ◌∷◌}
use Prim.Native.Nat.{ℕ, ◌+◌, ◌≤◌}
use native.Mathlib.Omega.{arith}
use lib.ListN.{length, take}
use Rattle.crc.specs.Crc.{all_ones, register_over}
use Rattle.counters.specs.declared.Counters.{Counters}
use Rattle.receiver_record.specs.declared.Record.{Record}
use Rattle.receiver_record.specs.Records.{fresh}
use Rattle.starting.specs.Starting.{one}
use Rattle.receive_histories.specs.History.{record_after, buffer_after, Call, calls, count, started, delivered, abandoning, damaged_start, misdelimited, completing, continuing, Holds}
use Rattle.receive_histories.proofs.Right.{Right, idle, going, right_ranges, right_after}
use Rattle.receive_histories.proofs.Tally.{four, plus, Modulo, call_tally}

-- the events of a history
abbrev total : List Call → Counters
total cs = four (count abandoning cs + count damaged_start cs) (count misdelimited cs) (count completing cs) (count continuing cs)

after_right : (ms : List (List ℕ)) {r : Record} {b : List ℕ} → Right r b → Right (record_after r b ms) (buffer_after r b ms)
unfolding record_after buffer_after
after_right [] w = w
after_right (m ∷ ms) w = after_right ms (right_after m w)

after_counters : (ms : List (List ℕ)) {r : Record} {b : List ℕ} → Right r b → (n : Counters) → Modulo n r.counters
    → Modulo (plus n (total (calls r b ms))) (record_after r b ms).counters
unfolding record_after calls count
after_counters [] w n q = record { errors = omega arith; delimiters = omega arith; assembled = omega arith; fragments = omega arith }
after_counters (m ∷ ms) w n q =
    let z = after_counters ms (right_after m w) _ ((call_tally m w).moved n q) in
    record { errors = omega arith; delimiters = omega arith; assembled = omega arith; fragments = omega arith }

after_balance : (ms : List (List ℕ)) {r : Record} {b : List ℕ} → Right r b
    → count started (calls r b ms) + one r.assembling
    ≡ count delivered (calls r b ms) + (total (calls r b ms)).errors + one (record_after r b ms).assembling
unfolding record_after calls count
after_balance [] w = omega arith
after_balance (m ∷ ms) w =
    let one-call = (call_tally m w).balance in
    let rest = after_balance ms (right_after m w) in
    omega arith

right_kept : {r : Record} {b : List ℕ} → Right r b → r.kept ≤ length b
right_kept idle = omega arith
right_kept (going w) = w.room

right_running : {r : Record} {b : List ℕ} → Right r b → r.assembling ≡ true → r.running ≡ register_over all_ones (take r.kept b)
right_running idle q = absurd (false≢true q)
right_running (going w) q = w.running

pub histories : (b : List ℕ) (ms : List (List ℕ)) → Holds (calls fresh b ms) (record_after fresh b ms) (buffer_after fresh b ms)
histories b ms =
    let w : Right (record_after fresh b ms) (buffer_after fresh b ms) = after_right ms {r = fresh} {b = b} idle in
    let k = after_counters ms {r = fresh} {b = b} idle (four 0 0 0 0) (record { errors = refl; delimiters = refl; assembled = refl; fragments = refl }) in
    let s = after_balance ms {r = fresh} {b = b} idle in
    record {
      ranges = right_ranges w;
      kept = right_kept w;
      running = right_running w;
      starts = omega arith;
      errors = omega arith;
      delimiters = omega arith;
      assembled = omega arith;
      fragments = omega arith;
    }
