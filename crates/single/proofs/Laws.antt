-- An mFrame that was laid is an answer.
-- Assumes nothing.
use mathlib.Core.Path.{◌≡◌, ap, ◌∙◌}
use mathlib.Core.Bool.{Bool}
use mathlib.Core.List.{List}
use Prim.Native.Nat.{ℕ}
use lib.ListN.{length}
use Rattle.std.specs.Prelude.{Ok}
use Rattle.octets.specs.Laid.{over}
use Rattle.mframe.specs.Octets.{Laid}
use Rattle.sender_answers.specs.Answers.{wrote, write, Answered}

-- an mFrame laid, which is the one asked for, is an answer with its octets
pub written : {f g out out' : List ℕ} {n : ℕ} {done : Bool} → Laid f out n out' → f ≡ g → Answered (write g done) out (Ok (record { length = n; done = done })) out'
written {f} {g} {out} {out'} {n} {done} l e =
    record { answer = ap (λ (k : ℕ). wrote k done) (l.count ∙ ap length e); octets = l.octets ∙ ap (λ (x : List ℕ). over x out) e }
