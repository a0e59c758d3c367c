-- What holds of every history of events.
-- Assumes nothing.
use mathlib.Core.Path.{◌≡◌, refl, ap, ◌∙◌}
use mathlib.Core.Bool.{Bool, true, false, cond, false≢true}
use mathlib.Core.List.{List, [], ◌∷◌, ◌++◌}
use mathlib.Core.Logic.{◌↔◌, ◌⊎◌, inl, inr, ⊎_elim}
use Prim.Native.Nat.{ℕ, zero, suc, ◌+◌, ◌-◌, ◌*◌, ◌≤◌, ◌<◌}
use native.Mathlib.Decide.{dec_lt}
use native.Mathlib.Omega.{arith}
use lib.Dec.{ltb}
use borrow.Author.Tests.{lt-ltb, le-ltb}
use Rattle.rules.proofs.Tests.{chosen, by_test, never}
use Rattle.verify_record.specs.Ranges.{attempts, is_wait, fresh, is_off, is_trying, counted, in_range}
use Rattle.verify_record.specs.declared.Phase.{Phase}
use Rattle.verify_record.specs.declared.Phase.TheVariants.{Off, Trying, Verified, Failed}
use Rattle.verify_record.specs.declared.Record.{Record}
use Rattle.verify_answers.specs.Answers.{Told}
use Rattle.verify_trying.specs.Trying.{rests, tries, begun}
use Rattle.verify.specs.Verify.{owing, effect, step_of}
use Rattle.verify.specs.declared.Event.{Event}
use Rattle.verify.specs.declared.Event.TheVariants.{Enable, Disable, LinkFailed, ResponseHeard, VerifyHeard, ResponseSent, Millisecond}
use Rattle.verify.proofs.Laws.{step_taken, step_refused}
use Rattle.verify_histories.specs.Histories.{record_after, is, one, times, verifies, carried, begins, beginnings, last_wait, HeardInTrying}
use Rattle.verify_histories.proofs.Ranges.{by_tick, running, rest_in_range, begun_in_range, in_range_kept, step_in_range}

-- the record after no event, after a first one, and after two histories
after_none : (r : Record) → record_after r [] ≡ r
unfolding record_after
after_none r = refl

after_first : (r : Record) (e : Event) (es : List Event) → in_range r ≡ true → record_after r (e ∷ es) ≡ record_after (effect e r).after es
unfolding record_after
after_first r e es h = ap (λ (t : Told). record_after t.after es) (step_taken r e h)

after_append : (r : Record) (xs ys : List Event) → record_after r (xs ++ ys) ≡ record_after (record_after r xs) ys
unfolding record_after
after_append r [] ys = refl
after_append r (x ∷ xs) ys = after_append (step_of r x).after xs ys

-- the ranges hold after every history
after_in_range : (r : Record) (es : List Event) → in_range r ≡ true → in_range (record_after r es) ≡ true
unfolding record_after
after_in_range r [] h = h
after_in_range r (e ∷ es) h = after_in_range (step_of r e).after es (step_in_range r e h)

pub always_in_range : (es : List Event) → in_range (record_after fresh es) ≡ true
unfolding is_wait counted
always_in_range es = after_in_range fresh es refl

-- the record keeps the wait of the last enable that began trying
abbrev Keeps : Record → Event → Told → Type 0
Keeps r e t = t.after.wait ≡ cond (begins r e) (carried e) r.wait

keeps : (r : Record) (e : Event) → Keeps r e (effect e r)
unfolding is_wait
keeps r (Enable n) =
    by_test (Keeps r (Enable n)) (is_wait n)
    (λ w. by_test (Keeps r (Enable n)) (is_off r.phase) (λ o. simp (w, o)) (λ o. simp (w, o)))
    (λ w. simp w)
keeps r Disable = refl
keeps r LinkFailed = refl
keeps r ResponseHeard = by_test (Keeps r ResponseHeard) (is_trying r.phase) (λ t. refl) (λ t. refl)
keeps r VerifyHeard = refl
keeps r ResponseSent = refl
keeps r Millisecond =
    by_test (Keeps r Millisecond) (is_trying r.phase) (λ t. by_tick (Keeps r Millisecond) r (λ a. refl) (λ a b. refl) (λ a b. refl)) (λ t. refl)

pub wait_kept : (r : Record) (es : List Event) → in_range r ≡ true → (record_after r es).wait ≡ last_wait r.wait r es
unfolding record_after last_wait
wait_kept r [] h = refl
wait_kept r (e ∷ es) h =
    wait_kept (step_of r e).after es (step_in_range r e h)
    ∙ ap (λ (n : ℕ). last_wait n (step_of r e).after es) (rw (step_taken r e h) (keeps r e))

-- what is left of a trying: the V that it can still order, and its milliseconds
abbrev spare : Record → ℕ
spare r = cond (is_trying r.phase) (attempts - r.attempt) 0

abbrev to_failure : Record → ℕ
to_failure r = (attempts - r.attempt) * r.wait + r.left

abbrev remaining : Record → ℕ
remaining r = cond (is_trying r.phase) (to_failure r) 0

-- an attempt more has its whole wait
attempt_more : (k n : ℕ) → k < attempts → (attempts - k) * n ≡ (attempts - (k + 1)) * n + n
attempt_more zero n h = omega arith
attempt_more (suc zero) n h = omega arith
attempt_more (suc (suc zero)) n h = omega arith
attempt_more (suc (suc (suc k))) n h = absurd (let z : ⊥ = omega arith in z)

-- behind the last attempt there is none
attempt_last : (k n : ℕ) → attempts ≤ k → (attempts - k) * n ≡ 0
attempt_last k n h = let none : attempts - k ≡ 0 = omega arith in omega (arith, ap (λ (x : ℕ). x * n) none)

-- behind the first attempt there are two more at most
attempts_behind : (k n : ℕ) → 1 ≤ k → k ≤ attempts → (attempts - k) * n + n ≤ attempts * n
attempts_behind zero n h m = absurd (let z : ⊥ = omega arith in z)
attempts_behind (suc zero) n h m = omega arith
attempts_behind (suc (suc zero)) n h m = omega arith
attempts_behind (suc (suc (suc zero))) n h m = omega arith
attempts_behind (suc (suc (suc (suc k)))) n h m = absurd (let z : ⊥ = omega arith in z)

-- what an event takes of that, unless it begins trying
abbrev Spends : Record → Event → Told → Type 0
Spends r e t =
    (one t.said.ordered + spare t.after ≤ attempts * one (begins r e) + spare r)
    × (one (begins r e) ≡ 0 → remaining t.after ≤ remaining r - one (is Millisecond e))

spends : (r : Record) (e : Event) → in_range r ≡ true → Spends r e (effect e r)
spends r (Enable n) h =
    by_test (Spends r (Enable n)) (is_wait n)
    (λ w. by_test (Spends r (Enable n)) (is_off r.phase)
    (λ o. rw (w, o) (omega arith, λ z. omega arith))
    (λ o. rw (w, o) (omega arith, λ z. omega arith)))
    (λ w. rw w (omega arith, λ z. omega arith))
spends r Disable h = (omega arith, λ z. omega arith)
spends r LinkFailed h = (omega arith, λ z. omega arith)
spends r ResponseHeard h =
    by_test (Spends r ResponseHeard) (is_trying r.phase) (λ t. (omega arith, λ z. omega arith)) (λ t. (omega arith, λ z. omega arith))
spends r VerifyHeard h = (omega arith, λ z. omega arith)
spends r ResponseSent h = (omega arith, λ z. omega arith)
spends r Millisecond h =
    by_test (Spends r Millisecond) (is_trying r.phase)
    (λ t. let c = running r h t in
    by_tick (Spends r Millisecond) r
    (λ a. rw t (omega arith, λ z. omega arith))
    (λ a b. rw t (omega arith, λ z. omega (arith, attempt_more r.attempt r.wait b)))
    (λ a b. (omega arith, λ z. omega arith)))
    (λ t. rw t (omega arith, λ z. omega arith))

step_spends : (r : Record) (e : Event) → in_range r ≡ true → Spends r e (step_of r e)
step_spends r e h = rw (step_taken r e h) (spends r e h)

-- three V at most for each time that trying is begun
once : (b : Bool) → one b ≤ 1
once true = omega arith
once false = omega arith

verifies_bound : (r : Record) (es : List Event) → in_range r ≡ true → verifies r es ≤ attempts * beginnings r es + spare r
unfolding verifies beginnings
verifies_bound r [] h = omega arith
verifies_bound r (e ∷ es) h = omega (arith, (step_spends r e h).0, verifies_bound (step_of r e).after es (step_in_range r e h))

pub three_for_each : (es : List Event) → verifies fresh es ≤ attempts * beginnings fresh es
unfolding is_wait counted
three_for_each es = omega (arith, verifies_bound fresh es refl)

pub three_verifies : (r : Record) (n : ℕ) (es : List Event) → in_range r ≡ true → r.phase ≡ Off → beginnings (step_of r (Enable n)).after es ≡ 0
    → verifies r (Enable n ∷ es) ≤ attempts
unfolding beginnings
three_verifies r n es h p b =
    let none : spare r ≡ 0 = simp p in
    omega (arith, verifies_bound r (Enable n ∷ es) h, once (begins r (Enable n)))

-- "trying lasts at most three times it", the wait kept
milliseconds_bound : (r : Record) (es : List Event) → in_range r ≡ true → beginnings r es ≡ 0
    → remaining (record_after r es) ≤ remaining r - times Millisecond es
unfolding record_after beginnings times
milliseconds_bound r [] h n = omega arith
milliseconds_bound r (e ∷ es) h n =
    let b : one (begins r e) ≡ 0 = omega (arith, n) in
    omega (arith, (step_spends r e h).1 b, milliseconds_bound (step_of r e).after es (step_in_range r e h) (omega (arith, n)))

spent : (r : Record) → in_range r ≡ true → remaining r ≤ 0 → is_trying r.phase ≡ false
spent r h z = by (is_trying r.phase) refl
  where
    by : (b : Bool) → is_trying r.phase ≡ b → b ≡ false
    by false t = refl
    by true t = let c = running r h t in absurd (let y : ⊥ = omega (arith, rw t at z) in y)

at_most : (r : Record) → in_range r ≡ true → remaining r ≤ attempts * r.wait
at_most r h =
    by_test (λ (n : ℕ). n ≤ attempts * r.wait) (is_trying r.phase)
    (λ t. let c = running r h t in omega (arith, attempts_behind r.attempt r.wait c.first c.last))
    (λ t. omega arith)

pub trying_over : (r : Record) (es : List Event) → in_range r ≡ true → beginnings r es ≡ 0
    → attempts * r.wait ≤ times Millisecond es → is_trying (record_after r es).phase ≡ false
trying_over r es h n m =
    spent (record_after r es) (after_in_range r es h) (omega (arith, milliseconds_bound r es h n, at_most r h))

-- an enable outside off changes nothing
enabled_before : (r : Record) (n : ℕ) → is_off r.phase ≡ false → (effect (Enable n) r).after ≡ r
enabled_before r n o = rw o (chosen (λ (t : Told). t.after ≡ r) (is_wait n) _ _ refl refl)

-- neither off nor trying, the phase stays until disable or link failed
stays : (r : Record) (es : List Event) → in_range r ≡ true → is_off r.phase ≡ false → is_trying r.phase ≡ false
    → times Disable es + times LinkFailed es ≡ 0 → (record_after r es).phase ≡ r.phase
unfolding times
stays r [] h o t k = simp after_none
stays r (Enable n ∷ es) h o t k = rw (after_first r (Enable n) es h, enabled_before r n o) (stays r es h o t (omega arith))
stays r (Disable ∷ es) h o t k = absurd (let z : ⊥ = omega arith in z)
stays r (LinkFailed ∷ es) h o t k = absurd (let z : ⊥ = omega arith in z)
stays r (ResponseHeard ∷ es) h o t k = rw (after_first r ResponseHeard es h, t) (stays r es h o t (omega arith))
stays r (VerifyHeard ∷ es) h o t k =
    rw (after_first r VerifyHeard es h) (stays (owing true r) es (in_range_kept r VerifyHeard h) o t (omega arith))
stays r (ResponseSent ∷ es) h o t k =
    rw (after_first r ResponseSent es h) (stays (owing false r) es (in_range_kept r ResponseSent h) o t (omega arith))
stays r (Millisecond ∷ es) h o t k = rw (after_first r Millisecond es h, t) (stays r es h o t (omega arith))

-- where nothing else ends trying, it lasts while fewer milliseconds came than were left, and then has failed
abbrev Lasts : ℕ → ℕ → Phase → Type 0
Lasts came left p = (came < left → p ≡ Trying) × (left ≤ came → p ≡ Failed)

retold : {a b c d : ℕ} {p : Phase} → Lasts a b p → (c < d → a < b) → (d ≤ c → b ≤ a) → Lasts c d p
retold w f g = (λ h. w.0 (f h), λ h. w.1 (g h))

lasts : (r : Record) (es : List Event) → in_range r ≡ true → r.phase ≡ Trying
    → times Disable es + times LinkFailed es + times ResponseHeard es ≡ 0
    → Lasts (times Millisecond es) (to_failure r) (record_after r es).phase
unfolding times
lasts r [] h p k =
    let c = running r h (ap is_trying p) in
    rw after_none (λ a. p, λ a. absurd (let z : ⊥ = omega arith in z))
lasts r (Enable n ∷ es) h p k =
    rw (after_first r (Enable n) es h, enabled_before r n (ap is_off p)) (retold (lasts r es h p (omega arith)) (omega arith) (omega arith))
lasts r (Disable ∷ es) h p k = absurd (let z : ⊥ = omega arith in z)
lasts r (LinkFailed ∷ es) h p k = absurd (let z : ⊥ = omega arith in z)
lasts r (ResponseHeard ∷ es) h p k = absurd (let z : ⊥ = omega arith in z)
lasts r (VerifyHeard ∷ es) h p k =
    rw (after_first r VerifyHeard es h) (retold (lasts (owing true r) es (in_range_kept r VerifyHeard h) p (omega arith)) (omega arith) (omega arith))
lasts r (ResponseSent ∷ es) h p k =
    rw (after_first r ResponseSent es h) (retold (lasts (owing false r) es (in_range_kept r ResponseSent h) p (omega arith)) (omega arith) (omega arith))
lasts r (Millisecond ∷ es) h p k =
    let c = running r h (ap is_trying p) in
    rw (after_first r Millisecond es h, ap is_trying p)
    (by_tick
    (λ (t : Told). in_range t.after ≡ true → Lasts (1 + times Millisecond es) (to_failure r) (record_after t.after es).phase) r
    (λ a i. retold (lasts (tries r.attempt (r.left - 1) r) es i refl (omega arith)) (omega arith) (omega arith))
    (λ a b i. let m = attempt_more r.attempt r.wait b in
    retold (lasts (tries (r.attempt + 1) r.wait r) es i refl (omega arith)) (omega arith) (omega arith))
    (λ a b i. let last = attempt_last r.attempt r.wait b in
    (λ x. absurd (let z : ⊥ = omega arith in z), λ x. stays (rests Failed r) es i refl refl (omega arith)))
    (rw (ap is_trying p) at (in_range_kept r Millisecond h)))

pub trying_lasts : (r : Record) (n : ℕ) (es : List Event) → in_range r ≡ true → r.phase ≡ Off → is_wait n ≡ true
    → times Disable es + times LinkFailed es + times ResponseHeard es ≡ 0
    → (record_after r (Enable n ∷ es)).phase ≡ cond (ltb (times Millisecond es) (attempts * n)) Trying Failed
trying_lasts r n es h p w k =
    let l = lasts (begun n r) es (begun_in_range n r w) refl k in
    rw (after_first r (Enable n) es h, w, ap is_off p)
    (elim (dec_lt (times Millisecond es) (attempts * n)) [
      | yes a ↦ rw (lt-ltb _ _ a) (l.0 (omega arith))
      | no a ↦ rw (le-ltb (times Millisecond es) (attempts * n) (omega arith)) (l.1 (omega arith))
    ])

-- verified after an event: it was so before, and the event kept it; or an R was heard in trying
abbrev Came : Record → Event → Type 0
Came r e = ((r.phase ≡ Verified) × (one (is Disable e) + one (is LinkFailed e) ≡ 0)) ⊎ ((e ≡ ResponseHeard) × (r.phase ≡ Trying))

abbrev Comes : Record → Event → Told → Type 0
Comes r e t = t.after.phase ≡ Verified → Came r e

is_trying_lem : (p : Phase) → is_trying p ≡ true → p ≡ Trying
is_trying_lem Off t = absurd (false≢true t)
is_trying_lem Trying t = refl
is_trying_lem Verified t = absurd (false≢true t)
is_trying_lem Failed t = absurd (false≢true t)

came : (r : Record) (e : Event) → Comes r e (effect e r)
came r (Enable n) =
    by_test (Comes r (Enable n)) (is_wait n)
    (λ w. by_test (Comes r (Enable n)) (is_off r.phase) (λ o v. never (cc)) (λ o v. inl (v, refl)))
    (λ w v. inl (v, refl))
came r Disable = λ v. never (cc)
came r LinkFailed = λ v. never (cc)
came r ResponseHeard =
    by_test (Comes r ResponseHeard) (is_trying r.phase) (λ t v. inr (refl, is_trying_lem r.phase t)) (λ t v. inl (v, refl))
came r VerifyHeard = λ v. inl (v, refl)
came r ResponseSent = λ v. inl (v, refl)
came r Millisecond =
    by_test (Comes r Millisecond) (is_trying r.phase)
    (λ t. by_tick (Comes r Millisecond) r (λ a v. never (cc)) (λ a b v. never (cc)) (λ a b v. never (cc)))
    (λ t v. inl (v, refl))

-- verified is reached only by an R heard in trying
pub verified_by_response : (r : Record) (e : Event) → (r.phase ≡ Verified → ⊥) → (step_of r e).after.phase ≡ Verified
    → (e ≡ ResponseHeard) × (r.phase ≡ Trying)
verified_by_response r e n = by (in_range r) refl
  where
    by : (b : Bool) → in_range r ≡ b → (step_of r e).after.phase ≡ Verified → (e ≡ ResponseHeard) × (r.phase ≡ Trying)
    by true h v = ⊎_elim (λ w. absurd (n w.0)) (λ w. w) (came r e (rw (step_taken r e h) at v))
    by false h v = absurd (n (rw (step_refused r e h) at v))

-- and a link is verified exactly if an R was heard in trying and neither disable nor link failed came since
heard_if : (r : Record) (es : List Event) → in_range r ≡ true → (record_after r es).phase ≡ Verified
    → ((r.phase ≡ Verified) × (times Disable es + times LinkFailed es ≡ 0)) ⊎ HeardInTrying r es
unfolding record_after times
heard_if r [] h v = inl (v, refl)
heard_if r (e ∷ es) h v =
    ⊎_elim
    (λ k. ⊎_elim
    (λ w. inl (w.0, omega (arith, w.1, k.1)))
    (λ w. inr (record { before = []; since = es; history = ap (λ (x : Event). x ∷ es) w.0; trying = w.1; kept = k.1 }))
    (came r e (rw (step_taken r e h) at k.0)))
    (λ w. inr (record { before = e ∷ w.before; since = w.since; history = ap (λ (x : List Event). e ∷ x) w.history; trying = w.trying; kept = w.kept }))
    (heard_if (step_of r e).after es (step_in_range r e h) v)

verified_if : (r : Record) (es : List Event) → in_range r ≡ true → HeardInTrying r es → (record_after r es).phase ≡ Verified
verified_if r es h w =
    let x = record_after r w.before in
    rw (w.history, after_append r w.before (ResponseHeard ∷ w.since), after_first x ResponseHeard w.since (after_in_range r w.before h), ap is_trying w.trying)
    (stays (rests Verified x) w.since (rest_in_range Verified x refl (after_in_range r w.before h)) refl refl w.kept)

pub verified_exactly : (es : List Event) → ((record_after fresh es).phase ≡ Verified) ↔ HeardInTrying fresh es
unfolding is_wait counted
verified_exactly es = (λ v. ⊎_elim (λ k. never (cc k.0)) (λ w. w) (heard_if fresh es refl v), verified_if fresh es refl)
