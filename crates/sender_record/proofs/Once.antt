-- No second record and no second ruling meets a promise of this crate.
-- Assumes nothing.
use mathlib.Core.Path.{◌≡◌, refl, sym, ap, ◌∙◌}
use mathlib.Core.Bool.{Bool, cond}
use Prim.Native.Nat.{ℕ}
use lib.Dec.{eqb}
use Rattle.std.specs.Prelude.{Option, Some, None, Result, Ok, Err}
use Rattle.sender_answers.specs.declared.Refusal.{Refusal}
use Rattle.sender_answers.specs.declared.Refusal.TheVariants as Why
use Rattle.sender_record.specs.Record.{fresh_of}
use Rattle.sender_record.specs.Refusals.{refusal_of, ruled}
use Rattle.sender_record.specs.declared.Record.{Record}

-- fresh
pub fresh_once : (active hold : Bool) (extra : ℕ) {r q : Record} → r ≡ fresh_of active hold extra → q ≡ fresh_of active hold extra → r ≡ q
fresh_once active hold extra p q = p ∙ sym q

-- the ruling, from the number of its refusal
unruled : Option ℕ → Result Unit Refusal
unruled None = Ok tt
unruled (Some k) =
    Err (cond (eqb k 30) Why.Output (cond (eqb k 31) Why.Record (cond (eqb k 32) Why.Body (cond (eqb k 33) Why.Length Why.Hold))))

back : (v : Result Unit Refusal) → unruled (ruled v) ≡ v
unfolding unruled
back (Ok go) = refl
back (Err Why.Output) = refl
back (Err Why.Record) = refl
back (Err Why.Body) = refl
back (Err Why.Length) = refl
back (Err Why.Hold) = refl

-- rule
pub rule_once : (r : Record) (n room : ℕ) {v w : Result Unit Refusal} → ruled v ≡ refusal_of r n room → ruled w ≡ refusal_of r n room → v ≡ w
rule_once r n room {v} {w} p q = sym (back v) ∙ ap unruled (p ∙ sym q) ∙ back w
