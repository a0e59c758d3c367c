-- Contents laid out one behind the other, in whatever layout, are read back.
-- Assumes nothing.
use mathlib.Core.Path.{◌≡◌, sym, ap, ap₂, ◌∙◌}
use mathlib.Core.List.{List, [], ◌∷◌, ◌++◌, append_assoc}
use Prim.Native.Nat.{ℕ, suc, ◌+◌, ◌≤◌}
use native.Mathlib.Omega.{arith}
use lib.ListN.{length, take, drop, get_or, length-append}
use Rattle.trace.specs.Trace.{Said, found, ended, limit}
use Rattle.trace_layout.specs.Layout.{Reading, Listing, rest_from}
use Rattle.trace_layout.proofs.Rest.{rest_found, rest_ended}

-- a layout: one content, and all of them
pub record Layout (one : List ℕ → List ℕ) (all : List (List ℕ) → List ℕ) : Type 0 where
  pub none : all [] ≡ []
  pub more : (c : List ℕ) (cs : List (List ℕ)) → all (c ∷ cs) ≡ one c ++ all cs

module _ (read : List ℕ → ℕ → Said) (w : (s : List ℕ) → Reading (read s) s) (one : List ℕ → List ℕ) (all : List (List ℕ) → List ℕ) (y : Layout one all) where
  -- a content that is laid out at a place is found there
  pub record Stands (s : List ℕ) (at : ℕ) (c : List ℕ) : Type 0 where
    pub place : ℕ
    pub found-there : read s at ≡ found place (length c) (at + length (one c))
    pub content : take (length c) (drop place s) ≡ c

  -- behind any octets, and before any others
  abbrev pub Standing : Type 0
  Standing = (before c behind : List ℕ) → length c ≤ limit → Stands (before ++ (one c ++ behind)) (length before) c

  abbrev Back : List ℕ → ℕ → List (List ℕ) → Type 0
  Back s at cs = rest_from (read s) s at ≡ record { contents = cs; stop = ended }

  one_more : (s : List ℕ) (at : ℕ) (c : List ℕ) (cs : List (List ℕ)) → Stands s at c → Back s (at + length (one c)) cs → Back s at (c ∷ cs)
  one_more s at c cs k rest =
      rest_found (read s) s (w s) at k.place (length c) (at + length (one c)) k.found-there
      ∙ ap₂ (λ (x : List ℕ) (l : Listing). record { contents = x ∷ l.contents; stop = l.stop }) k.content rest

  pub laid_read : Standing → (before : List ℕ) (cs : List (List ℕ)) → ((i : ℕ) → length (get_or cs i []) ≤ limit) → Back (before ++ all cs) (length before) cs
  laid_read f before [] h =
      let s : List ℕ = before ++ all [] in
      let none : length (all []) ≡ 0 = ap length y.none in
      rest_ended (read s) s (w s) (length before) ((w s).ends (length before) (omega (arith, length-append before (all []), none)))
  laid_read f before (c ∷ cs) h =
      let rest : Back (before ++ (one c ++ all cs)) (length before + length (one c)) cs =
      ap₂ (λ (s : List ℕ) (at : ℕ). rest_from (read s) s at) (sym (append_assoc before (one c) (all cs))) (sym (length-append before (one c)))
      ∙ laid_read f (before ++ one c) cs (λ i. h (suc i)) in
      ap (λ (x : List ℕ). rest_from (read (before ++ x)) (before ++ x) (length before)) (y.more c cs)
      ∙ one_more (before ++ (one c ++ all cs)) (length before) c cs (f before c (all cs) (h 0)) rest
