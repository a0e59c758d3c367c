-- The part that goes, by whether the port is active; a cut part and what it leaves have 60 octets or more.
-- Assumes nothing.
use mathlib.Core.Path.{◌≡◌, refl, sym, ◌∙◌}
use mathlib.Core.Bool.{Bool, true, false}
use Prim.Native.Nat.{ℕ, ◌+◌, ◌≤◌}
use native.Mathlib.Omega.{arith}
use Rattle.std.specs.Prelude.{Option, Some, None}
use Rattle.cut.specs.Cut.{minimum, part_of}
use Rattle.cut.proofs.Laws.{cut_room}
use Rattle.sender_record.specs.declared.Record.{Record}
use Rattle.sender_part.specs.Parts.{part_now, Ends}

-- the part that goes, by whether the port is active
pub part_active : (r : Record) (n : ℕ) (ask : Option ℕ) → r.active ≡ true → part_now r n ask ≡ part_of (n + 4) r.sent (minimum r.extra) ask
unfolding part_now
part_active r n ask e = simp e

pub part_inactive : (r : Record) (n : ℕ) (ask : Option ℕ) → r.active ≡ false → part_now r n ask ≡ None
unfolding part_now
part_inactive r n ask e = simp e

-- a cut part has 60 octets or more, and leaves 60 of the body or more
pub record Within (r : Record) (n to : ℕ) : Type 0 where
  pub part : r.sent + 60 ≤ to
  pub left : to + 60 ≤ n

pub cut_within : (r : Record) (n : ℕ) (ask : Option ℕ) (k : ℕ) → part_now r n ask ≡ Some k → Within r n (r.sent + k)
unfolding part_now
cut_within r n ask k e = by r.active refl
  where
    by : (b : Bool) → r.active ≡ b → Within r n (r.sent + k)
    by true q =
        let w = cut_room (n + 4) r.sent (minimum r.extra) ask k (sym (part_active r n ask q) ∙ e) in
        record { part = omega (arith, w.0); left = omega (arith, w.1) }
    by false q = absurd (let z : ◌≡◌ {A = ℕ} 0 1 = (let w = sym (part_inactive r n ask q) ∙ e in cc) in let y : ⊥ = omega arith in y)

-- where a cut part ends
pub ends_cut : (r : Record) (n : ℕ) (ask : Option ℕ) (k : ℕ) → part_now r n ask ≡ Some k
    → Ends r n (part_now r n ask) (record { to = r.sent + k; done = false })
ends_cut r n ask k e =
    let w = cut_within r n ask k e in
    rw e (record { end = refl; done = refl; onward = omega (arith, w.part); within = omega (arith, w.left) })
