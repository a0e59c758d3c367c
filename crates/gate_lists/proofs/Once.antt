-- No second answer meets a promise of this crate.
-- Assumes nothing.
use mathlib.Core.Path.{◌≡◌, refl, sym, ap, ◌∙◌}
use mathlib.Core.List.{List}
use Prim.Native.Nat.{ℕ}
use Rattle.std.specs.Prelude.{Result, Ok, Err}
use Rattle.gate_entries.specs.Entries.{Entry}
use Rattle.gate_entries.proofs.Once.{refusal_of, refusal_back}
use Rattle.gate_lists.specs.Lists.{Said, good, refused, short, said, number_of, value_of, of_octets, of_entries}
use Rattle.gate_lists.specs.declared.Error.{Error}
use Rattle.gate_lists.specs.declared.Error.TheVariants.{Refused, Short}

-- no two answers are said alike: what is said gives the answer back
abbrev unsaid : Said → Result ℕ Error
unsaid (good n) = Ok n
unsaid (refused q k) = Err (Refused (refusal_of q) k)
unsaid (short n) = Err (Short n)

back : (a : Result ℕ Error) → unsaid (said a) ≡ a
back (Ok n) = refl
back (Err (Refused why k)) = ap (λ q. Err (Refused q k)) (refusal_back why)
back (Err (Short n)) = refl

pub said_one : {x y : Result ℕ Error} → said x ≡ said y → x ≡ y
said_one {x} {y} e = sym (back x) ∙ ap unsaid e ∙ back y

-- number, value
pub number_once : (a : Result ℕ Error) {x y : ℕ} → x ≡ number_of (said a) → y ≡ number_of (said a) → x ≡ y
number_once a p q = p ∙ sym q

pub value_once : (a : Result ℕ Error) {x y : ℕ} → x ≡ value_of (said a) → y ≡ value_of (said a) → x ≡ y
value_once a p q = p ∙ sym q

-- of_octets
pub of_octets_once : (s : List ℕ) {x y : Result ℕ Error} → said x ≡ of_octets s → said y ≡ of_octets s → x ≡ y
of_octets_once s p q = said_one (p ∙ sym q)

-- of_entries
pub of_entries_once : (es : List Entry) {x y : Result ℕ Error} → said x ≡ of_entries es → said y ≡ of_entries es → x ≡ y
of_entries_once es p q = said_one (p ∙ sym q)
