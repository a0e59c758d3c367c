-- Octets whose head is known: how many they are, and the part from where the data begin.
-- Assumes nothing.
use mathlib.Core.Path.{◌≡◌, sym, ap, subst, ◌∙◌}
use mathlib.Core.List.{List}
use Prim.Native.Nat.{ℕ, ◌+◌, ◌-◌, ◌≤◌}
use native.Mathlib.Omega.{arith}
use lib.ListN.{length, take, drop, length-drop}
use lib.Seq.{take_all}
use Rattle.std.specs.Prelude.{Result, Ok}
use Rattle.heads.specs.Head.{Reading, known, reading, head_of}
use Rattle.faults.specs.declared.Fault.{Fault}
use Rattle.heads.specs.declared.Head.{Head}
use Rattle.heads.proofs.Heads.{Good, head_good}

module _ (m : List ℕ) {got : Result Head Fault} {head : Head} (read : reading got ≡ head_of m) (e : got ≡ Ok head) where
  pub knows : head_of m ≡ known head.kind head.place
  knows = sym read ∙ ap reading e

  pub spacious : (head.place + 64 ≤ length m) × (length m ≤ head.place + 1522)
  spacious = let g = subst (λ (x : Reading). Good (length m) x) knows (head_good m) in (g.least, g.most)

  -- the part from where the data begin
  pub part : take (length m - head.place) (drop head.place m) ≡ drop head.place m
  part = take_all (length m - head.place) (drop head.place m) (let g : length (drop head.place m) ≤ length m - head.place = omega (arith, length-drop head.place m) in g)

  pub roomy : (64 ≤ length (take (length m - head.place) (drop head.place m))) × (length (take (length m - head.place) (drop head.place m)) ≤ 1522)
  roomy = let w = spacious in rw part (simp length-drop (omega arith, omega arith))
