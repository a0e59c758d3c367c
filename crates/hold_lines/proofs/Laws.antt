-- Where a line ends at the latest, whatever it says, and the lines of one event more.
-- Assumes nothing.
use mathlib.Core.Path.{◌≡◌, sym, ap, ◌∙◌}
use mathlib.Core.Bool.{Bool, true, false, cond}
use mathlib.Core.List.{List, [], ◌∷◌, ◌++◌, append-nil, append_assoc}
use Prim.Native.Nat.{ℕ, zero, suc, ◌+◌, ◌*◌, ◌≤◌, ◌<◌}
use native.Mathlib.Omega.{arith}
use lib.Dec.{eqb}
use lib.ListN.{length, take, get_or, length-append}
use lib.Seq.{length-take-le}
use Rattle.text.specs.Text.{Put, line_end, decimal_of}
use Rattle.text.proofs.Laws.{digits_length}
use Rattle.hold_lines.specs.HoldLines.{hold_word, release_word, word_line, event_line, event_lines, cycle_line, all_lines}

-- what happens
either_length : (t : Bool) → length (cond t hold_word release_word) ≤ 9
either_length true = omega arith
either_length false = omega arith

word_length : (operation : ℕ) → length (word_line operation) ≤ 9
unfolding word_line
word_length operation = either_length (eqb operation 1)

-- an event
event_length : (time operation : ℕ) → length (event_line time operation) ≤ 29
event_length time operation =
    omega (arith, digits_length 20 time, word_length operation, length-append (decimal_of time) (word_line operation))

-- the line of an event
abbrev line_of : List ℕ → List ℕ
line_of e = event_line (get_or e 0 0) (get_or e 1 0)

-- all events
pub events_length : (es : List (List ℕ)) → length (event_lines es) ≤ length es * 29
unfolding event_lines
events_length [] = omega arith
events_length (e ∷ es) =
    omega (arith, event_length (get_or e 0 0) (get_or e 1 0), events_length es, length-append (line_of e) (event_lines es))

-- the cycle
cycle_length : (cycle : ℕ) → length (cycle_line cycle) ≤ 27
cycle_length cycle = omega (arith, digits_length 20 cycle, length-append (decimal_of cycle) (line_end ∷ []))

-- the same of what is put: the place behind it
module _ {at r : ℕ} {out x : List ℕ} where
  pub number_end : (n : ℕ) → Put (decimal_of n) at out r x → r ≤ at + 20
  number_end n p = omega (arith, p.place, digits_length 20 n)

  pub word_end : (operation : ℕ) → Put (word_line operation) at out r x → r ≤ at + 9
  word_end operation p = omega (arith, p.place, word_length operation)

  pub event_end : (time operation : ℕ) → Put (event_line time operation) at out r x → r ≤ at + 29
  event_end time operation p = omega (arith, p.place, event_length time operation)

  pub events_end : (es : List (List ℕ)) → Put (event_lines es) at out r x → r ≤ at + length es * 29
  events_end es p = omega (arith, p.place, events_length es)

  pub so_far_end : (i : ℕ) (es : List (List ℕ)) → i ≤ length es → Put (event_lines (take i es)) at out r x → r ≤ at + i * 29
  so_far_end i es h p = omega (arith, events_end (take i es) p, length-take-le i es h)

  pub cycle_end : (cycle : ℕ) → Put (cycle_line cycle) at out r x → r ≤ at + 27
  cycle_end cycle p = omega (arith, p.place, cycle_length cycle)

  pub all_end : (es : List (List ℕ)) (cycle : ℕ) → Put (all_lines es cycle) at out r x → r ≤ at + (length es * 29 + 27)
  all_end es cycle p = omega (arith, p.place, events_length es, cycle_length cycle, length-append (event_lines es) (cycle_line cycle))

-- one event more
pub events_next : (i : ℕ) (es : List (List ℕ)) → i < length es → event_lines (take (suc i) es) ≡ event_lines (take i es) ++ line_of (get_or es i [])
unfolding event_lines
events_next i [] h = absurd (let z : ⊥ = omega arith in z)
events_next zero (e ∷ es) h = append-nil (line_of e)
events_next (suc i) (e ∷ es) h =
    ap (λ (l : List ℕ). line_of e ++ l) (events_next i es (omega arith)) ∙ sym (append_assoc (line_of e) (event_lines (take i es)) (line_of (get_or es i [])))
