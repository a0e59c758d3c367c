-- The way there and back as a caller goes it, and the lengths that are known before.
-- Assumes nothing.
use mathlib.Core.Path.{◌≡◌, refl, sym, ap, ap₂, ◌∙◌, subst}
use mathlib.Core.Bool.{Bool, true, false, cond}
use mathlib.Core.List.{List, [], ◌∷◌}
use Prim.Native.Nat.{ℕ, zero, suc, ◌+◌, ◌-◌, ◌*◌, ◌≤◌, ◌<◌}
use native.Mathlib.Omega.{arith}
use lib.Dec.{ltb}
use lib.ListN.{length, take, drop, get_or, length-drop}
use lib.Seq.{take_at, length-take-le}
use Rattle.rules.proofs.Tests.{tests, never}
use Rattle.octets.specs.Laid.{over}
use Rattle.trace.specs.Trace as trace
use Rattle.trace_layout.specs.Layout.{Listing, trace_of, rest_from, read_all}
use Rattle.trace_layout.proofs.Rest.{rest_found, rest_ended, rest_refused, everywhere}
use Rattle.trace_layout.proofs.Inside.{found_inside, trace_reading}
use Rattle.trace_layout.proofs.Whole.{trace_whole}
use Rattle.pcap_fields.specs.declared.Order.{Order}
use Rattle.pcap_records.specs.Records.{Opening, opens, open_of}
use Rattle.pcap_records.proofs.Laws.{open_long}
use Rattle.pcap_headers.specs.Headers.{capture_of}
use Rattle.pcap_lists.specs.Lists.{Said, good, refused, short, value_of, judged, records_in}
use Rattle.pcap.specs.Captures.{told, Outcome, outcome, Met, write_of, read_in, read_of}
use Rattle.pcap.proofs.Lengths.{good_trace, captured, uncaptured}
use Rattle.captures.specs.Typed.{Octets}
use Rattle.captures.proofs.Readback.{capture_opens, capture_back}

-- no content of a trace is longer than the limit
module _ (s : List ℕ) where
  abbrev Within : ℕ → Type 0
  Within at = (i : ℕ) → length (get_or (rest_from (trace.read_at s) s at).contents i []) ≤ trace.limit

  within : Within 0
  within =
      everywhere (trace.read_at s) s (trace_reading s) Within
      (λ at place n next e h i. subst (λ (l : Listing). length (get_or l.contents i []) ≤ trace.limit) (sym (rest_found (trace.read_at s) s (trace_reading s) at place n next e)) (first at place n next e h i))
      (λ at e i. subst (λ (l : Listing). length (get_or l.contents i []) ≤ trace.limit) (sym (rest_ended (trace.read_at s) s (trace_reading s) at e)) (omega arith))
      (λ at q e i. subst (λ (l : Listing). length (get_or l.contents i []) ≤ trace.limit) (sym (rest_refused (trace.read_at s) s (trace_reading s) at q e)) (omega arith)) 0
    where
      first : (at place n next : ℕ) → trace.read_at s at ≡ trace.found place n next → Within next
          → (i : ℕ) → length (get_or (take n (drop place s) ∷ (rest_from (trace.read_at s) s next).contents) i []) ≤ trace.limit
      first at place n next e h zero =
          let w = found_inside s at place n next e in
          let l : length (take n (drop place s)) ≡ n = length-take-le n (drop place s) (omega (arith, length-drop place s)) in
          omega arith
      first at place n next e h (suc i) = h i

-- a call that wrote something: what it was given is good, and all of the other is at the output's front
pub record Wrote (s : Said) (xs out : List ℕ) (n : ℕ) (out' : List ℕ) : Type 0 where
  pub records : ℕ
  pub was_good : s ≡ good records
  pub count : n ≡ length xs
  pub output : out' ≡ over xs out

module _ (xs out : List ℕ) where
  short_not_good : {A : Type 0} (k n : ℕ) → short k ≡ good n → A
  short_not_good k n e = never (cc)

  refused_not_good : {A : Type 0} (q k n : ℕ) → refused q k ≡ good n → A
  refused_not_good q k n e = never (cc)

  room_or : (k n : ℕ) (out' : List ℕ) (b : Bool) (p : Outcome)
      → p ≡ cond b (record { answer = short (told (length xs)); output = [] }) (record { answer = good (length xs); output = xs })
      → Met p out (good n) out' → Wrote (good k) xs out n out'
  room_or k n out' true p e m = short_not_good (told (length xs)) n (sym (m.answer ∙ ap (λ (x : Outcome). x.answer) e))
  room_or k n out' false p e m =
      record {
        records = k;
        was_good = refl;
        count = ap value_of (m.answer ∙ ap (λ (x : Outcome). x.answer) e);
        output = m.output ∙ ap (λ (x : Outcome). over x.output out) e;
      }

  wrote : (s : Said) (n : ℕ) (out' : List ℕ) → Met (outcome s xs (length out)) out (good n) out' → Wrote s xs out n out'
  wrote (good k) n out' m = room_or k n out' (ltb (length out) (length xs)) (outcome (good k) xs (length out)) refl m
  wrote (refused q k) n out' m = refused_not_good q k n (sym m.answer)
  wrote (short k) n out' m = short_not_good k n (sym m.answer)

-- what is good and has room is written; what has none is told how much there must be
module _ (xs out : List ℕ) (s a : Said) (out' : List ℕ) (k : ℕ) (g : s ≡ good k) (m : Met (outcome s xs (length out)) out a out') where
  has_room : length xs ≤ length out → (a ≡ good (length xs)) × (out' ≡ over xs out)
  has_room h =
      let o : outcome s xs (length out) ≡ record { answer = good (length xs); output = xs } = ap (λ (x : Said). outcome x xs (length out)) g ∙ simp tests in
      (m.answer ∙ ap (λ (x : Outcome). x.answer) o, m.output ∙ ap (λ (x : Outcome). over x.output out) o)

  has_none : length out < length xs → (a ≡ short (told (length xs))) × (out' ≡ out)
  has_none h =
      let o : outcome s xs (length out) ≡ record { answer = short (told (length xs)); output = [] } = ap (λ (x : Said). outcome x xs (length out)) g ∙ simp tests in
      (m.answer ∙ ap (λ (x : Outcome). x.answer) o, m.output ∙ ap (λ (x : Outcome). over x.output out) o)

-- the capture of a good trace is good, and its contents make the same trace
read_of_written : (s : List ℕ) → Octets s → (k room : ℕ) → judged (read_all s) ≡ good k → read_of (capture_of (read_all s).contents) room ≡ outcome (good k) s room
read_of_written s o k room g =
    let cs : List (List ℕ) = (read_all s).contents in
    let e = good_trace s k g in
    let back = capture_back cs (within s) in
    ap (λ (x : Opening). read_in x (capture_of cs) room) (capture_opens cs)
    ∙ ap (λ (l : Listing). outcome (judged l) (trace_of l.contents) room) back
    ∙ ap₂ (λ (n : ℕ) (x : List ℕ). outcome (good n) x room) (let z : 0 + length cs ≡ k = omega (arith, e.counted) in z) (trace_whole s o e.stopped)

-- "Trace to pcap to trace gives the same octets"
pub there_and_back : (s : List ℕ) → Octets s → (capture capture' : List ℕ) (n : ℕ) → Met (write_of s (length capture)) capture (good n) capture'
    → (lent lent' : List ℕ) (a : Said) → Met (read_of (take n capture') (length lent)) lent a lent' → length s ≤ length lent
    → (a ≡ good (length s)) × (lent' ≡ over s lent)
there_and_back s o capture capture' n w lent lent' a r h =
    let c : List ℕ = capture_of (read_all s).contents in
    let written = wrote c capture (judged (read_all s)) n capture' w in
    let front : take n capture' ≡ c = ap (take n) written.output ∙ take_at c (drop (length c) capture) n (sym written.count) in
    let same = ap (λ (x : List ℕ). read_of x (length lent)) front ∙ read_of_written s o written.records (length lent) written.was_good in
    has_room s lent (good written.records) a lent' written.records refl (subst (λ (p : Outcome). Met p lent a lent') same r) h

-- the length needed is known before, from the length of what is given and the number of its records: with as much room all of it is written, with
-- less nothing, and the length is told
pub record Known (n : ℕ) (xs out : List ℕ) (a : Said) (out' : List ℕ) : Type 0 where
  pub enough : n ≤ length out → (a ≡ good n) × (out' ≡ over xs out)
  pub too_little : length out < n → (a ≡ short (told n)) × (out' ≡ out)

known : (xs out : List ℕ) (s a : Said) (out' : List ℕ) (k n : ℕ) → s ≡ good k → Met (outcome s xs (length out)) out a out' → length xs ≡ n → Known n xs out a out'
known xs out s a out' k n g m l =
    record {
      enough = λ h. let r = has_room xs out s a out' k g m (omega arith) in (r.0 ∙ ap good l, r.1);
      too_little = λ h. let r = has_none xs out s a out' k g m (omega arith) in (r.0 ∙ ap (λ (i : ℕ). short (told i)) l, r.1);
    }

pub write_known : (s : List ℕ) → Octets s → (k : ℕ) → judged (read_all s) ≡ good k → (out out' : List ℕ) (a : Said) → Met (write_of s (length out)) out a out'
    → Known (24 + length s + 12 * k) (capture_of (read_all s).contents) out a out'
write_known s o k g out out' a m = known (capture_of (read_all s).contents) out (judged (read_all s)) a out' k _ g m (captured s k o g).octets

pub read_known : (s : List ℕ) (o : Order) → open_of s ≡ opens o → (k : ℕ) → judged (records_in o s) ≡ good k → (out out' : List ℕ) (a : Said)
    → Met (read_of s (length out)) out a out' → Known (length s - 24 - 12 * k) (trace_of (records_in o s).contents) out a out'
read_known s o e k g out out' a m =
    known (trace_of (records_in o s).contents) out (judged (records_in o s)) a out' k _ g (subst (λ (x : Opening). Met (read_in x s (length out)) out a out') e m)
    (let u = uncaptured o s k (open_long s o e) g in omega arith)

-- a capture never has more than 24 octets and four times as many as its trace
pub write_most : (s : List ℕ) → Octets s → (k : ℕ) → judged (read_all s) ≡ good k → length (capture_of (read_all s).contents) ≤ 24 + 4 * length s
write_most s o k g =
    let l = (captured s k o g).least in
    let n = (captured s k o g).octets in
    omega arith
