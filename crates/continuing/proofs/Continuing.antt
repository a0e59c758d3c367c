-- A continuation by the answers of its tests: each of 22, 23, 24 and 25 that fails leaves with its drop, and one that passes all is taken.
-- Assumes nothing.
use mathlib.Core.Path.{◌≡◌, refl, sym, ap, ◌∙◌}
use mathlib.Core.Bool.{Bool, true, false, not, ◌&&◌}
use mathlib.Core.List.{List}
use Prim.Native.Nat.{ℕ, ◌+◌, ◌-◌, ◌≤◌, ◌<◌}
use borrow.Author.Tests.{lt-ltb, le-ltb}
use lib.Dec.{eqb}
use Rattle.std.specs.Prelude.{Option, Some, None}
use lib.ListN.{length}
use Rattle.codes.specs.declared.FrameCount.{FrameCount}
use Rattle.codes.specs.declared.FragmentCount.{FragmentCount}
use Rattle.endings.specs.Judge.{ending_of}
use Rattle.endings.specs.declared.Ending.{Ending}
use Rattle.endings.specs.declared.Ending.TheVariants as E
use Rattle.receiver_record.specs.declared.Record.{Record}
use Rattle.continuing.specs.declared.Assembly.{Assembly}
use Rattle.continuing.specs.declared.Counts.{Counts}
use Rattle.continuing.specs.declared.Counts.TheVariants.{Expected, Other}
use Rattle.continuing.specs.declared.Rest.{Rest}
use Rattle.receiver_answers.specs.Answers.{says}
use Rattle.outcomes.specs.Outcomes.{Step, unchanged, abandoned}
use Rattle.continuing.specs.Continuing.{ended_of, unexpected, total_of, continuation_of}
use Rattle.continuing.specs.Tests.{Opened, Assembled, other, Fits, check_of, taken_of}

-- one that passed 22, 23 and 24, by the answer of 25
abbrev checked : ℕ → Record → Option Rest → Step
checked total r (Some rest) = taken_of total rest r
checked total r None = abandoned (says 25 0) r

by_check : (total : ℕ) (r : Record) (end : Ending) → checked total r (check_of end) ≡ ended_of total end r
by_check total r (E.Done n) = refl
by_check total r (E.More n running) = refl
by_check total r E.Damaged = refl

module _ (f : FrameCount) (g : FragmentCount) (octets : List ℕ) (r : Record) where
  pub closed : {a : Option Assembly} → Assembled r a → a ≡ None → unchanged (says 22 0) r ≡ continuation_of f g octets r
  unfolding continuation_of
  closed h e = let shut : r.assembling ≡ false = rw e at h in simp shut

  module _ {o : Option Assembly} {a : Assembly} (h : Assembled r o) (e : o ≡ Some a) where
    going : Opened r a.frame a.fragment a.kept a.running
    going = rw e at h

    abbrev wrong : Bool
    wrong = not (eqb f.0 a.frame.0 && eqb g.0 a.fragment.0)

    test : (b : Bool) → wrong ≡ b → unexpected f g r ≡ b
    test b q =
        ap (λ (x : FrameCount). not (eqb f.0 x.0 && eqb g.0 r.fragment.0)) (sym going.frame_is)
        ∙ ap (λ (x : FragmentCount). not (eqb f.0 a.frame.0 && eqb g.0 x.0)) (sym going.fragment_is) ∙ q

    total : a.kept + (length octets - 4) ≡ total_of octets r
    total = ap (λ (n : ℕ). n + (length octets - 4)) going.kept_is

    pub miscounted : {k : Counts} → other k ≡ wrong → k ≡ Other → abandoned (says 23 0) r ≡ continuation_of f g octets r
    unfolding continuation_of
    miscounted t q = let u = test true (sym t ∙ ap other q) in simp (going.assembling, u)

    pub too_long : {k : Counts} {w : Option ℕ} → other k ≡ wrong → k ≡ Expected → Fits (a.kept + (length octets - 4)) w → w ≡ None
        → abandoned (says 24 0) r ≡ continuation_of f g octets r
    unfolding continuation_of
    too_long t q z v =
        let u = test false (sym t ∙ ap other q) in
        let x : 1518 < total_of octets r = rw total at (rw v at z) in
        simp (going.assembling, u, lt-ltb _ _ x)

    module _ {k : Counts} {w : Option ℕ} {n : ℕ} {end : Ending} {check : Option Rest} (t : other k ≡ wrong) (q : k ≡ Expected)
        (z : Fits (a.kept + (length octets - 4)) w) (v : w ≡ Some n) (j : end ≡ ending_of a.running octets) (d : check ≡ check_of end) where
      judged : checked n r check ≡ continuation_of f g octets r
      unfolding continuation_of
      judged =
          let u = test false (sym t ∙ ap other q) in
          let x : (n ≡ a.kept + (length octets - 4)) × (a.kept + (length octets - 4) ≤ 1518) = rw v at z in
          let y : total_of octets r ≤ 1518 = rw total at x.1 in
          ap (checked n r) d ∙ by_check n r end ∙ simp (going.assembling, u, le-ltb _ _ y, j, going.running_is, x.0 ∙ total)

      pub damaged : check ≡ None → abandoned (says 25 0) r ≡ continuation_of f g octets r
      damaged e = ap (checked n r) (sym e) ∙ judged

      pub passed : {rest : Rest} → check ≡ Some rest → taken_of n rest r ≡ continuation_of f g octets r
      passed e = ap (checked n r) (sym e) ∙ judged
