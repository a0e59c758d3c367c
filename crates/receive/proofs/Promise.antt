-- The promises of this crate, from what is known at each return of the code.
-- Assumes nothing.
use mathlib.Core.Path.{◌≡◌, sym, ap, ◌∙◌}
use mathlib.Core.Bool.{Bool, true, false, not}
use mathlib.Core.List.{List}
use Prim.Native.Nat.{ℕ, ◌-◌, ◌≤◌, ◌<◌}
use borrow.Author.Tests.{lt-ltb, le-ltb}
use lib.ListN.{length, take, drop}
use Rattle.std.specs.Prelude.{Result, Ok, Err}
use Rattle.endings.specs.Judge.{data_of}
use Rattle.faults.specs.Faults.{fault_number, fault_detail}
use Rattle.heads.specs.Head.{reading, head_of}
use Rattle.mframe.specs.declared.Kind.{Kind}
use Rattle.faults.specs.declared.Fault.{Fault}
use Rattle.heads.specs.declared.Head.{Head}
use Rattle.receiver_record.specs.declared.Record.{Record}
use Rattle.outcomes.specs.declared.Received.{Received}
use Rattle.receiver_answers.specs.Answers.{Said, says, said}
use Rattle.receiver_record.specs.Records.{in_range}
use Rattle.outcomes.specs.Outcomes.{Step, told, unchanged}
use Rattle.assembly.specs.Steps.{step_of}
use Rattle.receive.specs.Receive.{received_of, writes, keeps, left_of, buffer_of, Answered, Taken}
use Rattle.receive.proofs.Known.{knows, part}
use Rattle.receive.proofs.Laws.{refused_writes, keeps_writes, step_within}

-- take: data that are kept fit
module _ (kind : Kind) (octets : List ℕ) (r : Record) (got : Received) {flag : Bool}
    (decided : told got ≡ step_of kind octets r) (tested : flag ≡ keeps got.answer) where
  is : said got.answer ≡ (step_of kind octets r).said
  is = ap (λ (t : Step). t.said) decided

  flag_is : flag ≡ writes (said got.answer).number
  flag_is = tested ∙ keeps_writes got.answer

  pub room : {end : ℕ} → end ≡ (said got.answer).detail → flag ≡ true → length octets ≤ 1522 → (length octets - 4 ≤ end) × (end ≤ 1518)
  room detailed q h = rw (detailed, is) (step_within octets r kind h (ap (λ (t : Said). writes t.number) (sym is) ∙ sym flag_is ∙ q))

-- receive
module _ (m : List ℕ) (r : Record) (b : List ℕ) {got : Received} where
  pub short : length b < 1518 → told got ≡ unchanged (says 10 0) r → Answered m r b got b
  unfolding received_of buffer_of
  short h e = record { step = e ∙ sym (simp (lt-ltb _ _ h)); octets = simp (lt-ltb _ _ h) }

  module _ {flag : Bool} (h : 1518 ≤ length b) (tested : flag ≡ in_range r) where
    pub outside : not flag ≡ true → told got ≡ unchanged (says 11 0) r → Answered m r b got b
    unfolding received_of buffer_of
    outside q e =
        let t = ap not (sym tested) ∙ q in
        record { step = e ∙ sym (simp (le-ltb _ _ h, t)); octets = simp (le-ltb _ _ h, t) }

    module _ (q : not flag ≡ false) {read_as : Result Head Fault} (read : reading read_as ≡ head_of m) where
      pub answered : {head : Head} {b' : List ℕ} → read_as ≡ Ok head → Taken head.kind (take (length m - head.place) (drop head.place m)) r b got b'
          → Answered m r b got b'
      unfolding received_of buffer_of
      answered {head} e t =
          let in-range = ap not (sym tested) ∙ q in
          record {
            step = t.step ∙ ap (λ (l : List ℕ). step_of head.kind l r) (part m read e) ∙ sym (simp (le-ltb _ _ h, in-range, knows m read e));
            octets = t.left ∙ ap (λ (l : List ℕ). left_of (step_of head.kind l r).said (data_of l) b) (part m read e)
                ∙ sym (simp (le-ltb _ _ h, in-range, knows m read e));
          }

      pub faulty : {fault : Fault} → read_as ≡ Err fault → told got ≡ unchanged (says (fault_number fault) (fault_detail fault)) r → Answered m r b got b
      unfolding received_of buffer_of
      faulty {fault} e t =
          let in-range = ap not (sym tested) ∙ q in
          let f = sym read ∙ ap reading e in
          record {
            step = t ∙ sym (simp (le-ltb _ _ h, in-range, f));
            octets = sym (simp (le-ltb _ _ h, in-range, f, refused_writes fault));
          }
