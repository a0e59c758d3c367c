-- No second counters meet a promise of this crate.
-- Assumes nothing.
use Rattle.std.proofs.Common.{◌≡◌, ℕ, sym, ◌∙◌}
use Rattle.counters.specs.declared.Counters.{Counters}
use Rattle.counters.specs.Counters.{erred, strayed, joined, completed}

-- the steps of the counters
module _ (c : Counters) where
  pub erred_once : (n : ℕ) {x y : Counters} → x ≡ erred n c → y ≡ erred n c → x ≡ y
  erred_once n p q = p ∙ sym q

  pub strayed_once : {x y : Counters} → x ≡ strayed c → y ≡ strayed c → x ≡ y
  strayed_once p q = p ∙ sym q

  pub joined_once : {x y : Counters} → x ≡ joined c → y ≡ joined c → x ≡ y
  joined_once p q = p ∙ sym q

  pub completed_once : {x y : Counters} → x ≡ completed c → y ≡ completed c → x ≡ y
  completed_once p q = p ∙ sym q
