-- The promises of the calls on captures, told in numbers.
-- Assumes nothing.
use mathlib.Core.Path.{◌≡◌, ap, ◌∙◌}
use mathlib.Core.List.{List}
use Prim.Native.Nat.{ℕ}
use Rattle.pcap_lists.specs.Lists.{Said, number_of, value_of}
use Rattle.pcap.specs.Captures.{Outcome, Met}
use Rattle.seatport.specs.Capturing.{Captured}

pub captured_words : {p : Outcome} {out out' : List ℕ} {a : Said} {number value : ℕ} → Met p out a out'
    → number ≡ number_of a → value ≡ value_of a → Captured p out number value out'
captured_words h n v = record { answer = n ∙ ap number_of h.answer; goes_with = v ∙ ap value_of h.answer; output = h.output }
