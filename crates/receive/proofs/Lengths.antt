-- The buffer stays as long as it was.
-- Assumes nothing.
use mathlib.Core.Path.{◌≡◌, refl, sym, ◌∙◌}
use mathlib.Core.Bool.{true}
use mathlib.Core.List.{List}
use Prim.Native.Nat.{ℕ, ◌≤◌}
use native.Mathlib.Omega.{arith}
use lib.ListN.{length, drop, length-drop}
use Rattle.rules.proofs.Tests.{by_test, failed}
use Rattle.octets.proofs.Laid.{length_laid}
use Rattle.endings.proofs.Endings.{data_length}
use Rattle.heads.specs.Head.{Reading, known, refused, head_of}
use Rattle.heads.proofs.Heads.{refused_from_ten, Good}
use Rattle.receiver_record.specs.declared.Record.{Record}
use Rattle.outcomes.specs.Outcomes.{Step}
use Rattle.receive.specs.Receive.{by_head, received_of, writes, data_in, buffer_of}
use Rattle.receive.proofs.Cases.{by_cases}
use Rattle.receive.proofs.Laws.{from_ten_writes, step_within}

module _ (m : List ℕ) (r : Record) (b : List ℕ) where
  abbrev Inside : Reading → Step → Type 0
  Inside h p = writes p.said.number ≡ true → (length (data_in h m) ≤ p.said.detail) × (p.said.detail ≤ length b)

  head_inside : 1518 ≤ length b → (h : Reading) → Good (length m) h → Inside h (by_head h m r)
  head_inside l (known kind place) g w =
      let d = data_length (drop place m) in
      let k = step_within (drop place m) r kind (omega (arith, g.most, length-drop place m)) w in
      (omega arith, omega arith)
  head_inside l (refused n d) g w = failed (sym (from_ten_writes n (refused_from_ten g)) ∙ w)

  inside : Inside (head_of m) (received_of m r (length b))
  inside = by_cases (Inside (head_of m)) m r (length b) (λ w. failed w) (λ w. failed w) (λ l g. head_inside l (head_of m) g)

  pub buffer_length_lem : length (buffer_of m r b) ≡ length b
  unfolding buffer_of
  buffer_length_lem =
      by_test (λ (l : List ℕ). length l ≡ length b) (writes (received_of m r (length b)).said.number)
      (λ q. let w = inside q in length_laid b _ (data_in (head_of m) m) (omega arith)) (λ q. refl)
