-- The promise of put_shown_record, from what is known where the code has laid the record and may have laid its end anew.
-- Assumes nothing.
use mathlib.Core.Path.{◌≡◌, sym, ap, ◌∙◌}
use mathlib.Core.Bool.{Bool, true, false}
use mathlib.Core.List.{List, map}
use Prim.Native.Nat.{ℕ, ◌+◌, ◌-◌, ◌≤◌}
use native.Mathlib.Omega.{arith}
use lib.ListN.{length}
use Rattle.octets.specs.Laid.{laid}
use Rattle.crc.specs.Crc.{inverted}
use Rattle.endings.specs.Judge.{last_four}
use Rattle.outcomes.specs.declared.Received.{Received}
use Rattle.outcomes.specs.Outcomes.{Step, told}
use Rattle.pcap_headers.specs.Headers.{capture_record}
use Rattle.receiver_record.specs.declared.Record.{Record}
use Rattle.receive.specs.Receive.{received_of}
use Rattle.eyes_records.specs.Shown.{right_mcrc, has_mcrc, is_right, shown_of}
use Rattle.eyes_records.proofs.Right.{right}
use Rattle.eyes_records.proofs.Laws.{has_right, shown_right, shown_other, four_inverted, end_anew}

module _ (m : List ℕ) (r : Record) (room : ℕ) (got : Received) {flag : Bool} (answered : told got ≡ received_of m r room) (tested : flag ≡ has_mcrc got.answer) where
  is_right_lem : flag ≡ is_right m r room
  is_right_lem = tested ∙ has_right got.answer ∙ ap (λ (s : Step). right_mcrc s.said.number) answered

  -- there are four octets to be inverted
  pub has_four : flag ≡ true → 4 ≤ length m
  has_four q = omega (arith, (right m r room (sym is_right_lem ∙ q)).enough)

  module _ (out : List ℕ) (at : ℕ) (space : at + 16 + length m ≤ length out) {laid-plain : List ℕ} (put : laid-plain ≡ laid out at (capture_record m)) where
    -- as it is, or with its end laid anew
    pub as_it_is : flag ≡ false → laid-plain ≡ laid out at (capture_record (shown_of m r room))
    as_it_is q = put ∙ ap (λ (l : List ℕ). laid out at (capture_record l)) (sym (shown_other m r room (sym is_right_lem ∙ q)))

    abbrev anew : List ℕ
    anew = laid laid-plain (at + 16 + length m - 4) (map inverted (last_four m))

    pub with_its_end : flag ≡ true → anew ≡ laid out at (capture_record (shown_of m r room))
    with_its_end q =
        let h = has_four q in
        ap (λ (l : List ℕ). laid l (at + 16 + length m - 4) (map inverted (last_four m))) put
        ∙ end_anew m out (map inverted (last_four m)) at h (four_inverted m h) space
        ∙ ap (λ (l : List ℕ). laid out at (capture_record l)) (sym (shown_right m r room (sym is_right_lem ∙ q)))
