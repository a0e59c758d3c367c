-- No second answer meets a promise of this crate.
-- Assumes nothing.
use mathlib.Core.Path.{◌≡◌, refl, sym, ap, ◌∙◌}
use mathlib.Core.Bool.{cond}
use mathlib.Core.List.{List}
use Prim.Native.Nat.{ℕ}
use lib.Dec.{eqb}
use Rattle.std.specs.Prelude.{Option, Some, None, Result, Ok, Err}
use Rattle.trace.specs.declared.Span.{Span}
use Rattle.trace.specs.Trace.{Said, found, ended, refused}
use Rattle.pcap_fields.specs.declared.Order.{Order}
use Rattle.pcap_records.specs.Records.{Opening, opens, shut, refusal_number, opening, open_of, said, record_at}
use Rattle.pcap_records.specs.declared.Refusal.{Refusal}
use Rattle.pcap_records.specs.declared.Refusal.TheVariants.{FileHeader, Magic, Version, LinkType, Header, Length, Original, Content}

-- no two refusals have one number
abbrev pub refusal_of : ℕ → Refusal
refusal_of k =
    cond (eqb k 70) FileHeader (cond (eqb k 71) Magic (cond (eqb k 72) Version (cond (eqb k 73) LinkType
    (cond (eqb k 74) Header (cond (eqb k 75) Length (cond (eqb k 76) Original Content))))))

pub refusal_back : (q : Refusal) → refusal_of (refusal_number q) ≡ q
refusal_back FileHeader = refl
refusal_back Magic = refl
refusal_back Version = refl
refusal_back LinkType = refl
refusal_back Header = refl
refusal_back Length = refl
refusal_back Original = refl
refusal_back Content = refl

-- no two answers are said alike: what is said gives the answer back
abbrev unopened : Opening → Result Order Refusal
unopened (opens o) = Ok o
unopened (shut k) = Err (refusal_of k)

open_back : (r : Result Order Refusal) → unopened (opening r) ≡ r
open_back (Ok o) = refl
open_back (Err q) = ap Err (refusal_back q)

abbrev unsaid : Said → Result (Option Span) Refusal
unsaid (found place n next) = Ok (Some (record { start = place; length = n; next = next }))
unsaid ended = Ok None
unsaid (refused k) = Err (refusal_of k)

back : (r : Result (Option Span) Refusal) → unsaid (said r) ≡ r
back (Ok (Some p)) = refl
back (Ok None) = refl
back (Err q) = ap Err (refusal_back q)

-- Refusal::number
pub number_once : (q : Refusal) {x y : ℕ} → x ≡ refusal_number q → y ≡ refusal_number q → x ≡ y
number_once q p s = p ∙ sym s

-- open
pub open_once : (s : List ℕ) {x y : Result Order Refusal} → opening x ≡ open_of s → opening y ≡ open_of s → x ≡ y
open_once s {x} {y} p q = sym (open_back x) ∙ ap unopened (p ∙ sym q) ∙ open_back y

-- record_at
pub record_at_once : (o : Order) (s : List ℕ) (at : ℕ) {x y : Result (Option Span) Refusal} → said x ≡ record_at o s at → said y ≡ record_at o s at → x ≡ y
record_at_once o s at {x} {y} p q = sym (back x) ∙ ap unsaid (p ∙ sym q) ∙ back y
