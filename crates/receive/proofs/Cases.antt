-- What holds of each of the three ways in which octets are answered holds of the answer: 10, 11, or by the head.
-- Assumes nothing.
use mathlib.Core.Bool.{not}
use mathlib.Core.List.{List}
use Prim.Native.Nat.{ℕ, ◌≤◌}
use borrow.Author.Tests.{ltb-false}
use lib.Dec.{ltb}
use lib.ListN.{length}
use Rattle.rules.proofs.Tests.{by_test}
use Rattle.heads.specs.Head.{head_of}
use Rattle.heads.proofs.Heads.{Good, head_good}
use Rattle.receiver_record.specs.declared.Record.{Record}
use Rattle.receiver_record.specs.Records.{in_range}
use Rattle.receiver_answers.specs.Answers.{says}
use Rattle.outcomes.specs.Outcomes.{Step, unchanged}
use Rattle.receive.specs.Receive.{by_head, received_of}

pub by_cases : (P : Step → Type 0) (m : List ℕ) (r : Record) (room : ℕ) → P (unchanged (says 10 0) r) → P (unchanged (says 11 0) r)
    → (1518 ≤ room → Good (length m) (head_of m) → P (by_head (head_of m) m r)) → P (received_of m r room)
unfolding received_of
by_cases P m r room ten eleven head =
    by_test P (ltb room 1518) (λ q. ten) (λ q. by_test P (not (in_range r)) (λ w. eleven) (λ w. head (ltb-false _ _ q) (head_good m)))
