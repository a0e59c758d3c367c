-- No second answer meets a promise of this crate.
-- Assumes nothing.
use mathlib.Core.Path.{◌≡◌, refl, sym, ap, ◌∙◌}
use mathlib.Core.Bool.{cond}
use mathlib.Core.List.{List}
use Prim.Native.Nat.{ℕ}
use lib.Dec.{eqb}
use Rattle.trace.specs.Trace.{front, Said, found, ended, refused, refusal_number, said, read_at}
use Rattle.std.specs.Prelude.{Option, Some, None, Result, Ok, Err}
use Rattle.trace.specs.declared.Span.{Span}
use Rattle.trace.specs.declared.Cursor.{Cursor}
use Rattle.trace.specs.declared.Refusal.{Refusal}
use Rattle.trace.specs.declared.Refusal.TheVariants.{Header, Length, Kind, Content}

-- no two refusals have one number
abbrev pub refusal_of : ℕ → Refusal
refusal_of k = cond (eqb k 50) Header (cond (eqb k 51) Length (cond (eqb k 52) Kind Content))

pub refusal_back : (q : Refusal) → refusal_of (refusal_number q) ≡ q
refusal_back Header = refl
refusal_back Length = refl
refusal_back Kind = refl
refusal_back Content = refl

-- no two answers are said alike: what is said gives the answer back
abbrev unsaid : Said → Result (Option Span) Refusal
unsaid (found place n next) = Ok (Some (record { start = place; length = n; next = next }))
unsaid ended = Ok None
unsaid (refused k) = Err (refusal_of k)

back : (r : Result (Option Span) Refusal) → unsaid (said r) ≡ r
back (Ok (Some p)) = refl
back (Ok None) = refl
back (Err q) = ap Err (refusal_back q)

-- Refusal::number
pub number_once : (q : Refusal) {x y : ℕ} → x ≡ refusal_number q → y ≡ refusal_number q → x ≡ y
number_once q p s = p ∙ sym s

-- Cursor::new
pub new_once : {x y : Cursor} → x ≡ front → y ≡ front → x ≡ y
new_once p q = p ∙ sym q

-- Cursor::read
pub read_once : (s : List ℕ) (at : ℕ) {x y : Result (Option Span) Refusal} → said x ≡ read_at s at → said y ≡ read_at s at → x ≡ y
read_once s at {x} {y} p q = sym (back x) ∙ ap unsaid (p ∙ sym q) ∙ back y
