-- No second record and no second judgement of one meets a promise of this crate.
-- Assumes nothing.
use mathlib.Core.Path.{◌≡◌, sym, ◌∙◌}
use mathlib.Core.Bool.{Bool}
use Rattle.counters.specs.declared.Counters.{Counters}
use Rattle.receiver_record.specs.declared.Record.{Record}
use Rattle.receiver_record.specs.Records.{shut, fresh, in_range}

-- shut and fresh
pub shut_once : (c : Counters) {x y : Record} → x ≡ shut c → y ≡ shut c → x ≡ y
shut_once c p q = p ∙ sym q

pub fresh_once : {x y : Record} → x ≡ fresh → y ≡ fresh → x ≡ y
fresh_once p q = p ∙ sym q

-- in_range
pub in_range_once : (r : Record) {x y : Bool} → x ≡ in_range r → y ≡ in_range r → x ≡ y
in_range_once r p q = p ∙ sym q
