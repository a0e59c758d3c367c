-- Demand 3 holds. Assumes nothing.
use mathlib.Core.List.{[]}
use native.Mathlib.Omega.{arith}
use Rattle.receiver_record.specs.Records.{fresh}
use Rattle.receive_histories.specs.History.{record_after, buffer_after}
use Rattle.link.specs.Sender.{sent}
use Rattle.link.specs.Frames.{fates, none_lost}
use Rattle.link.specs.Demand.{Demand3}
use Rattle.link.proofs.Counts.{runs}
use Rattle.link.proofs.Inv.{closed_idle}
use Rattle.link.proofs.Link.{lanes}
use Rattle.link.proofs.Send.{m_idle}
use Rattle.link.proofs.Calls.{flows}
use Rattle.link.proofs.InStep.{steps_in}

pub demand3 : Demand3
unfolding none_lost
demand3 = record {
  delivers = λ calls buffer room same few.
      let y = lanes (sent calls) [] (closed_idle {c = 0}) (omega arith) room (runs (fates (sent calls)) few) (flows calls _ _ _ (m_idle (omega arith)) same) in
      record { express_lane_lem = y.0; preemptable_lane_lem = y.1 };
  in_step = λ octets buffer. steps_in (record_after fresh buffer octets) (buffer_after fresh buffer octets);
  in_step_from_any = steps_in;
}
