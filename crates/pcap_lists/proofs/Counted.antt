-- Records counted one by one: what is said of those from a place on, behind k others.
-- Assumes nothing.
use mathlib.Core.Path.{◌≡◌, sym, ap, ◌∙◌}
use mathlib.Core.List.{List}
use Prim.Native.Nat.{ℕ, suc, ◌+◌}
use native.Mathlib.Nat.{add-zero}
use native.Mathlib.Omega.{arith}
use lib.ListN.{length}
use Rattle.trace.specs.Trace as trace
use Rattle.trace_layout.specs.Layout.{Reading, Listing, rest_from}
use Rattle.trace_layout.proofs.Rest.{rest_found, rest_ended, rest_refused}
use Rattle.pcap_lists.specs.Lists.{good, refused, behind, judged_from}

module _ (read : ℕ → trace.Said) (s : List ℕ) (w : Reading read s) (k at : ℕ) where
  pub count_found : (place n next : ℕ) → read at ≡ trace.found place n next
      → judged_from (k + 1) (rest_from read s next) ≡ judged_from k (rest_from read s at)
  count_found place n next e =
      let l : Listing = rest_from read s next in
      let more : k + 1 + length l.contents ≡ k + suc (length l.contents) = omega arith in
      ap (λ (m : ℕ). behind m l.stop) more ∙ sym (ap (judged_from k) (rest_found read s w at place n next e))

  pub count_ended : read at ≡ trace.ended → judged_from k (rest_from read s at) ≡ good k
  count_ended e = ap (judged_from k) (rest_ended read s w at e) ∙ ap good (add-zero k)

  pub count_refused : (q : ℕ) → read at ≡ trace.refused q → judged_from k (rest_from read s at) ≡ refused q (k + 1)
  count_refused q e = ap (judged_from k) (rest_refused read s w at q e) ∙ ap (λ (m : ℕ). refused q (m + 1)) (add-zero k)
