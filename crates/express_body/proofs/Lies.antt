-- What callers know of the part that `part_in` tells: its octets are the express body, and it ends within the mFrame.
-- Assumes nothing.
use mathlib.Core.Path.{◌≡◌, refl, sym, ap, subst}
use mathlib.Core.Bool.{Bool, true, false, cond}
use mathlib.Core.List.{List, []}
use Prim.Native.Nat.{ℕ, ◌+◌, ◌-◌, ◌≤◌}
use native.Mathlib.Omega.{arith}
use lib.ListN.{length, take, drop, length-drop}
use Rattle.endings.specs.Judge.{data_of}
use Rattle.endings.proofs.Endings.{data_length}
use Rattle.heads.specs.Head.{Reading, known, refused, head_of}
use Rattle.heads.proofs.Heads.{Good, head_good}
use Rattle.receive.specs.Receive.{data_in}
use Rattle.express_body.specs.Body.{begin_of, delivered, body_of, place_of, part_in}
use Rattle.express_body.specs.declared.Part.{Part}

-- octets that lie in an mFrame from a start on; no mFrame has more than 1,531
pub record Lies (m octets : List ℕ) (start size : ℕ) : Type 0 where
  pub same : take (start + size - start) (drop start m) ≡ octets
  pub within : start + size ≤ length m
  pub most : start + size ≤ 1531

by_head_lem : (m : List ℕ) (h : Reading) → Good (length m) h → (b : Bool)
    → Lies m (cond b (data_in h m) []) (cond b (begin_of h) 0) (length (cond b (data_in h m) []))
by_head_lem m h g false = record { same = refl; within = omega arith; most = omega arith }
by_head_lem m (refused number detail) g true = record { same = refl; within = omega arith; most = omega arith }
by_head_lem m (known kind place) g true =
    let d = data_length (drop place m) in
    let n = length-drop place m in
    record {
      same = ap (λ (k : ℕ). take k (drop place m)) (let z : place + length (data_of (drop place m)) - place ≡ length (drop place m) - 4 = omega arith in z);
      within = omega (arith, d, n, g.least);
      most = omega (arith, d, n, g.least, g.early, g.most);
    }

pub part_lies : (m : List ℕ) {part : Part} → part ≡ part_in m → Lies m (body_of m) part.start part.length
unfolding body_of place_of
part_lies m e = subst (λ (p : Part). Lies m (body_of m) p.start p.length) (sym e) (by_head_lem m (head_of m) (head_good m) (delivered m))
