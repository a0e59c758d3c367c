-- What holds of the head of any octets: where it is known there is room for data and check octets, and the counts are under 4; where it is
-- refused the number is 12 to 15 or 17, and only 15 has a detail, of eight at most. Assumes nothing.
use mathlib.Core.List.{List}
use Prim.Native.Nat.{ℕ, ◌+◌, ◌≤◌}
use native.Mathlib.Omega.{arith}
use borrow.Author.Tests.{ltb-false}
use lib.Dec.{ltb}
use lib.ListN.{length, get_or}
use Rattle.delimiters.specs.Delimiters.{delimiter_of, fragment_of}
use Rattle.std.specs.Prelude.{Option, Some, None}
use Rattle.codes.specs.declared.FrameCount.{FrameCount}
use Rattle.codes.specs.declared.FragmentCount.{FragmentCount}
use Rattle.rules.proofs.Tests.{chosen, by_test}
use Rattle.delimiters.proofs.Sizes.{Small, delimiter_small, SmallFragment, fragment_small}
use Rattle.delimiters.specs.declared.Delimiter.{Delimiter}
use Rattle.delimiters.specs.declared.Delimiter.TheVariants as D
use Rattle.preambles.specs.Preamble.{leading}
use Rattle.heads.specs.Head.{Reading, known, refused, sized_of, coded_of, delimited_of, head_of}
use Rattle.mframe.specs.declared.Kind.{Kind}
use Rattle.mframe.specs.declared.Kind.TheVariants as K
use Rattle.mframe.proofs.Laws.{Counted}

-- the numbers of a head's refusal, with their details
pub data Refusal : (number detail : ℕ) → Type 0 where
  n12 : Refusal 12 0
  n13 : Refusal 13 0
  n14 : Refusal 14 0
  n15 : (bits : ℕ) → bits ≤ 8 → Refusal 15 bits
  n17 : Refusal 17 0

pub detail_small : {number detail : ℕ} → Refusal number detail → detail ≤ 8
detail_small n12 = omega arith
detail_small n13 = omega arith
detail_small n14 = omega arith
detail_small (n15 bits h) = h
detail_small n17 = omega arith

pub refused_from_ten : {number detail : ℕ} → Refusal number detail → 10 ≤ number
refused_from_ten n12 = omega arith
refused_from_ten n13 = omega arith
refused_from_ten n14 = omega arith
refused_from_ten (n15 bits h) = omega arith
refused_from_ten n17 = omega arith

-- n octets with a known head: where the data begin there is room for the least data and check octets, and no more than the most
pub record Roomy (n : ℕ) (kind : Kind) (place : ℕ) : Type 0 where
  pub early : place ≤ 9
  pub least : place + 64 ≤ n
  pub most : n ≤ place + 1522
  pub counted : Counted kind

-- a head of n octets
abbrev pub Good : ℕ → Reading → Type 0
Good n (known kind place) = Roomy n kind place
Good n (refused number detail) = Refusal number detail

good_sized : (n : ℕ) (kind : Kind) (place : ℕ) → place ≤ 9 → Counted kind → Good n (sized_of kind place n)
good_sized n kind place h u =
    by_test (Good n) (ltb n (place + 64)) {x = refused 12 0} (λ _. n12)
    (λ p. by_test (Good n) (ltb (place + 1522) n) {x = refused 13 0} {y = known kind place} (λ _. n13)
    (λ q. record { early = h; least = ltb-false _ _ p; most = ltb-false _ _ q; counted = u }))

module _ (m : List ℕ) (place : ℕ) (h : place ≤ 8) where
  good_coded : (frame : FrameCount) (g : Option FragmentCount) → frame.0 ≤ 3 → SmallFragment g → Good (length m) (coded_of frame g (place + 1) (length m))
  good_coded frame (Some k) u v = good_sized (length m) (K.Continuation frame k) (place + 1) (omega arith) (omega arith, v)
  good_coded frame None u v = n17

  good_delimited : (d : Delimiter) → Small d → Good (length m) (delimited_of d place m)
  good_delimited D.Express u = good_sized (length m) K.Express place (omega arith) tt
  good_delimited (D.Start f) u = good_sized (length m) (K.Start f) place (omega arith) u
  good_delimited (D.Continuation f) u =
      let y : ℕ = get_or m place 0 in
      chosen (Good (length m)) (ltb place (length m)) (coded_of f (fragment_of y) (place + 1) (length m)) (refused 12 0)
      (good_coded f (fragment_of y) (omega arith) (fragment_small y)) n12
  good_delimited D.Verify u = good_sized (length m) K.Verify place (omega arith) tt
  good_delimited D.Respond u = good_sized (length m) K.Respond place (omega arith) tt
  good_delimited (D.Unknown bits) u = n15 bits u

pub head_good : (m : List ℕ) → Good (length m) (head_of m)
unfolding head_of
head_good m =
    let n : ℕ = leading m in
    let d : Delimiter = delimiter_of (get_or m n 0) in
    by_test (Good (length m)) (ltb 7 n) {x = refused 14 0} (λ _. n14)
    (λ p. chosen (Good (length m)) (ltb n (length m)) (delimited_of d (n + 1) m) (refused 12 0)
    (good_delimited m (n + 1) (let q : n ≤ 7 = ltb-false _ _ p in omega arith) d (delimiter_small (get_or m n 0))) n12)
