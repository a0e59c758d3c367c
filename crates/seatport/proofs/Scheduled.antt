-- The promises of the calls on the hall's schedule, told in numbers.
-- Assumes nothing.
use mathlib.Core.Path.{◌≡◌, ap, ◌∙◌}
use mathlib.Core.List.{List}
use Prim.Native.Nat.{ℕ}
use Rattle.gate_lists.specs.Lists.{Said, number_of, value_of}
use Rattle.gate_events.specs.Events.{Event}
use Rattle.gates.specs.Gates.{Outcome, Met, cycle_of}
use Rattle.seatport.specs.Scheduling.{Scheduled, Listed}

pub scheduled_words : {A : Type 0} {p : Outcome A} {out out' : List A} {a : Said} {number count : ℕ} → Met p out a out'
    → number ≡ number_of a → count ≡ value_of a → Scheduled p out number count out'
scheduled_words h n v = record { answer = n ∙ ap number_of h.answer; value = v ∙ ap value_of h.answer; output = h.output }

pub listed_words : {p : Outcome Event} {s : List ℕ} {out out' : List Event} {a : Said} {number count cycle : ℕ} → Met p out a out'
    → number ≡ number_of a → count ≡ value_of a → cycle ≡ cycle_of a s → Listed p s out number count cycle out'
listed_words {s = s} h n v c =
    record {
      answer = n ∙ ap number_of h.answer;
      value = v ∙ ap value_of h.answer;
      cycle = c ∙ ap (λ (a : Said). cycle_of a s) h.answer;
      output = h.output;
    }
