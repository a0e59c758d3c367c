-- What a record in range has, and what the sending tests leave: of the body 60 octets or more are not yet sent.
-- Assumes nothing.
use mathlib.Core.Path.{◌≡◌, refl, sym}
use mathlib.Core.Logic.{◌⊎◌, inl, inr, ⊎_elim}
use mathlib.Core.Bool.{Bool, true, false, not, ◌&&◌, ◌||◌, false≢true}
use Prim.Native.Nat.{ℕ, ◌+◌, ◌≤◌}
use native.Mathlib.Omega.{arith}
use borrow.Author.Tests.{eqb-true, leb-true, ltb-false, ne_eqb, not-false}
use lib.Dec.{eqb, leb, ltb}
use Rattle.std.specs.Prelude.{None}
use Rattle.rules.proofs.Tests.{both, either, neither}
use Rattle.sender_answers.specs.Answers.{short, outside}
use Rattle.sender_record.specs.Record.{idle, going, in_range, differs, held}
use Rattle.sender_record.specs.Refusals.{first_of, refusal_of}
use Rattle.sender_record.specs.declared.Record.{Record}

-- a length that is not 0 and does not differ from another is that one
same_or : (a b : Bool) → (not a && not b) ≡ false → a ≡ false → b ≡ true
same_or true b e f = absurd (false≢true (sym f))
same_or false true e f = refl
same_or false false e f = sym e

-- what a record in range has: no frame in progress, or one of which 60 octets or more are not yet sent
pub record Idle (r : Record) : Type 0 where
  pub no_length : r.length ≡ 0
  pub no_sent : r.sent ≡ 0
  pub no_fragment : r.fragment.0 ≡ 0

pub record Going (r : Record) : Type 0 where
  pub least : 60 ≤ r.length
  pub most : r.length ≤ 1518
  pub begun : 60 ≤ r.sent
  pub left : r.sent + 60 ≤ r.length
  pub small : r.fragment.0 ≤ 3

pub record Range (r : Record) : Type 0 where
  pub extra : r.extra ≤ 3
  pub next : r.next.0 ≤ 3
  pub frame : Idle r ⊎ Going r

idle_known : (r : Record) → idle r ≡ true → Idle r
unfolding idle
idle_known r e =
    let a = both (eqb r.length 0) (eqb r.sent 0 && eqb r.fragment.0 0) e in
    let b = both (eqb r.sent 0) (eqb r.fragment.0 0) a.1 in
    record { no_length = eqb-true _ _ a.0; no_sent = eqb-true _ _ b.0; no_fragment = eqb-true _ _ b.1 }

going_known : (r : Record) → going r ≡ true → Going r
unfolding going
going_known r e =
    let a = both (leb 60 r.length) _ e in
    let b = both (leb r.length 1518) _ a.1 in
    let c = both (leb 60 r.sent) _ b.1 in
    let d = both (leb (r.sent + 60) r.length) (leb r.fragment.0 3) c.1 in
    record { least = leb-true _ _ a.0; most = leb-true _ _ b.0; begun = leb-true _ _ c.0; left = leb-true _ _ d.0; small = leb-true _ _ d.1 }

range_known : (r : Record) → in_range r ≡ true → Range r
unfolding in_range
range_known r e =
    let a = both (leb r.extra 3) _ e in
    let b = both (leb r.next.0 3) (idle r || going r) a.1 in
    record {
      extra = leb-true _ _ a.0;
      next = leb-true _ _ b.0;
      frame = ⊎_elim (λ i. inl (idle_known r i)) (λ g. inr (going_known r g)) (either (idle r) (going r) b.1);
    }

same_known : (r : Record) (n : ℕ) → differs r n ≡ false → (r.length ≡ 0 → ⊥) → r.length ≡ n
unfolding differs
same_known r n e z = eqb-true _ _ (same_or _ _ e (ne_eqb _ _ z))

-- what is known where none of the table's refusals applies
pub record Passed (r : Record) (n room : ℕ) : Type 0 where
  pub buffer : 1530 ≤ room
  pub range : Range r
  pub least : 60 ≤ n
  pub most : n ≤ 1518
  pub same : (r.length ≡ 0 → ⊥) → r.length ≡ n
  pub left : r.sent + 60 ≤ n

-- the table's tests, one after the other
record NoneApplies (a b c d e : Bool) : Type 0 where
  none30 : a ≡ false
  none31 : b ≡ false
  none32 : c ≡ false
  none33 : d ≡ false
  none34 : e ≡ false

table_none : (a b c d e : Bool) → first_of a b c d e ≡ None → NoneApplies a b c d e
table_none true b c d e h = let z : ◌≡◌ {A = ℕ} 0 1 = cc in absurd (let y : ⊥ = omega arith in y)
table_none false true c d e h = let z : ◌≡◌ {A = ℕ} 0 1 = cc in absurd (let y : ⊥ = omega arith in y)
table_none false false true d e h = let z : ◌≡◌ {A = ℕ} 0 1 = cc in absurd (let y : ⊥ = omega arith in y)
table_none false false false true e h = let z : ◌≡◌ {A = ℕ} 0 1 = cc in absurd (let y : ⊥ = omega arith in y)
table_none false false false false true h = let z : ◌≡◌ {A = ℕ} 0 1 = cc in absurd (let y : ⊥ = omega arith in y)
table_none false false false false false h = record { none30 = refl; none31 = refl; none32 = refl; none33 = refl; none34 = refl }

pub passed : (r : Record) (n room : ℕ) → refusal_of r n room ≡ None → Passed r n room
unfolding refusal_of
passed r n room e =
    let k = table_none (short room) (not (in_range r)) (outside n) (differs r n) (held r) e in
    let o = neither (ltb n 60) (ltb 1518 n) k.none32 in
    let g = range_known r (not-false (in_range r) k.none31) in
    let low = ltb-false n 60 o.0 in
    let same = same_known r n k.none33 in
    record {
      buffer = ltb-false room 1530 k.none30;
      range = g;
      least = low;
      most = ltb-false 1518 n o.1;
      same = same;
      left = ⊎_elim (λ (i : Idle r). omega (arith, i.no_sent)) (λ (w : Going r). omega (arith, w.left, same (omega (arith, w.least)))) g.frame;
    }
