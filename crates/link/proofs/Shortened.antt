-- Octets that lose leading octets 55 are read as before: the same kind, and the same octets behind the header. Assumes nothing.
use mathlib.Core.Path.{◌≡◌, refl, ap, subst, ◌∙◌}
use mathlib.Core.Bool.{Bool, true, false, cond, ◌&&◌}
use mathlib.Core.List.{List, [], ◌∷◌}
use Prim.Native.Nat.{ℕ, suc, ◌-◌}
use native.Mathlib.Omega.{arith}
use borrow.Author.Tests.{eqb-true}
use lib.Dec.{eqb, ltb}
use lib.ListN.{drop}
use Rattle.rules.proofs.Tests.{both}
use Rattle.heads.specs.Head.{known, head_of}
use Rattle.head_laws.proofs.Shorter.{one_less}
use Rattle.mframe.specs.declared.Kind.{Kind}
use Rattle.link.specs.Frames.{shortened}

-- octets m that a head of this kind begins, with these behind it
pub record Reads (kind : Kind) (octets m : List ℕ) : Type 0 where
  pub place : ℕ
  pub head : head_of m ≡ known kind place
  pub behind : drop place m ≡ octets

module _ {kind : Kind} {octets : List ℕ} where
  -- one octet 55 less
  less : (m : List ℕ) → Reads kind octets (0x55 ∷ m) → Reads kind octets m
  less m r =
      let w = one_less m r.head in
      record {
        place = r.place - 1;
        head = w.1;
        behind = ap (λ (k : ℕ). drop k (0x55 ∷ m)) (let e : suc (r.place - 1) ≡ r.place = omega (arith, w.0) in e) ∙ r.behind;
      }

  pub shortened_reads : (n : ℕ) (m : List ℕ) → Reads kind octets m → Reads kind octets (shortened n m)
  unfolding shortened
  shortened_reads n [] r = r
  shortened_reads n (x ∷ m) r = go (ltb 0 n && eqb x 0x55) refl (λ q. shortened_reads (n - 1) m q)
    where
      go : (b : Bool) → (ltb 0 n && eqb x 0x55) ≡ b → (Reads kind octets m → Reads kind octets (shortened (n - 1) m))
          → Reads kind octets (cond b (shortened (n - 1) m) (x ∷ m))
      go true e f = f (less m (subst (λ (y : ℕ). Reads kind octets (y ∷ m)) (eqb-true x 0x55 (both (ltb 0 n) (eqb x 0x55) e).1) r))
      go false e f = r
