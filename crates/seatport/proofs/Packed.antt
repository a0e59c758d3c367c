-- A preemptable call that is refused hands back the words that it got. Assumes nothing.
use mathlib.Core.Path.{◌≡◌, refl}
use mathlib.Core.Bool.{Bool, true, false, cond}
use mathlib.Core.List.{List, [], ◌∷◌}
use Prim.Native.Nat.{ℕ}
use lib.ListN.{length}
use Rattle.std.specs.Prelude.{Option, Some, None}
use Rattle.sender_record.specs.Refusals.{refusal_of}
use Rattle.send.specs.Preemptable.{sent_of, unless}
use Rattle.sender_words.specs.Sender.{sender_fits, sender_of}
use Rattle.sender_words.proofs.Laws.{sender_written}
use Rattle.sent_words.specs.Sent.{ask_of}
use Rattle.seatport.specs.Sending.{told, unfit, sending_of}

-- a preemptable call that is refused hands the sender's words back, whatever they are
pub sender_handed_back : (a h e n l s f : ℕ) (body : List ℕ) (ask room : ℕ) → let w = a ∷ h ∷ e ∷ n ∷ l ∷ s ∷ f ∷ [] in
    ((sending_of w body ask room).number ≡ 0 → ⊥) → (sending_of w body ask room).sender ≡ w
unfolding sending_of sent_of
sender_handed_back a h e n l s f body ask room =
    let w = a ∷ h ∷ e ∷ n ∷ l ∷ s ∷ f ∷ [] in by (sender_fits w) refl (refusal_of (sender_of w) (length body) room)
  where
    by : (b : Bool) → sender_fits (a ∷ h ∷ e ∷ n ∷ l ∷ s ∷ f ∷ []) ≡ b → (o : Option ℕ)
        → let v = a ∷ h ∷ e ∷ n ∷ l ∷ s ∷ f ∷ [] in
        let p = cond b (told (unless o (sender_of v) (sent_of (sender_of v) body (ask_of ask)))) (unfit v room) in
        (p.number ≡ 0 → ⊥) → p.sender ≡ v
    by true q None z = absurd (z refl)
    by true q (Some k) z = sender_written a h e n l s f q
    by false q o z = refl
