-- No second answer meets a promise of this crate.
-- Assumes nothing.
use mathlib.Core.Path.{◌≡◌, refl, sym, ap, ◌∙◌}
use mathlib.Core.Bool.{cond}
use mathlib.Core.List.{List}
use Prim.Native.Nat.{ℕ}
use lib.Dec.{ltb}
use Rattle.std.specs.Prelude.{Option, Some, None, Result, Ok, Err}
use Rattle.trace.specs.Trace as reading
use Rattle.trace.specs.declared.Span.{Span}
use Rattle.trace.proofs.Once as trace
use Rattle.trace.specs.declared.Refusal.TheVariants as T
use Rattle.trace_layout.specs.Layout.{Listing, read_all}
use Rattle.pcap_fields.specs.declared.Order.{Order}
use Rattle.pcap_records.proofs.Once as capture
use Rattle.pcap_records.specs.declared.Refusal.TheVariants as C
use Rattle.pcap_lists.specs.Lists.{Said, good, refused, short, why_number, said, read_said, number_of, value_of, judged, records_in}
use Rattle.pcap_lists.specs.declared.Why.{Why}
use Rattle.pcap_lists.specs.declared.Why.TheVariants as W
use Rattle.pcap_lists.specs.declared.Error.{Error}
use Rattle.pcap_lists.specs.declared.Error.TheVariants.{Refused, Short}

-- no two refusals have one number: a trace is refused by numbers under 60, a capture by others
abbrev why_of : ℕ → Why
why_of q = cond (ltb q 60) (W.Trace (trace.refusal_of q)) (W.Capture (capture.refusal_of q))

why_back : (w : Why) → why_of (why_number w) ≡ w
why_back (W.Trace T.Header) = refl
why_back (W.Trace T.Length) = refl
why_back (W.Trace T.Kind) = refl
why_back (W.Trace T.Content) = refl
why_back (W.Capture C.FileHeader) = refl
why_back (W.Capture C.Magic) = refl
why_back (W.Capture C.Version) = refl
why_back (W.Capture C.LinkType) = refl
why_back (W.Capture C.Header) = refl
why_back (W.Capture C.Length) = refl
why_back (W.Capture C.Original) = refl
why_back (W.Capture C.Content) = refl

-- no two answers are said alike: what is said gives the answer back
abbrev unsaid : Said → Result ℕ Error
unsaid (good n) = Ok n
unsaid (refused q k) = Err (Refused (why_of q) k)
unsaid (short n) = Err (Short n)

back : (a : Result ℕ Error) → unsaid (said a) ≡ a
back (Ok n) = refl
back (Err (Refused w k)) = ap (λ (v : Why). Err (Refused v k)) (why_back w)
back (Err (Short n)) = refl

pub said_one : {x y : Result ℕ Error} → said x ≡ said y → x ≡ y
said_one {x} {y} e = sym (back x) ∙ ap unsaid e ∙ back y

abbrev unread : reading.Said → Result (Option Span) Why
unread (reading.found place n next) = Ok (Some (record { start = place; length = n; next = next }))
unread reading.ended = Ok None
unread (reading.refused q) = Err (why_of q)

read_back : (r : Result (Option Span) Why) → unread (read_said r) ≡ r
read_back (Ok (Some p)) = refl
read_back (Ok None) = refl
read_back (Err w) = ap Err (why_back w)

-- Why::number
pub why_number_once : (w : Why) {x y : ℕ} → x ≡ why_number w → y ≡ why_number w → x ≡ y
why_number_once w p q = p ∙ sym q

-- number, value
pub number_once : (a : Result ℕ Error) {x y : ℕ} → x ≡ number_of (said a) → y ≡ number_of (said a) → x ≡ y
number_once a p q = p ∙ sym q

pub value_once : (a : Result ℕ Error) {x y : ℕ} → x ≡ value_of (said a) → y ≡ value_of (said a) → x ≡ y
value_once a p q = p ∙ sym q

-- Records::read
pub read_once : (s : reading.Said) {x y : Result (Option Span) Why} → read_said x ≡ s → read_said y ≡ s → x ≡ y
read_once s {x} {y} p q = sym (read_back x) ∙ ap unread (p ∙ sym q) ∙ read_back y

-- count, of any file, of a trace and of a capture
pub count_once : (l : Listing) {x y : Result ℕ Error} → said x ≡ judged l → said y ≡ judged l → x ≡ y
count_once l p q = said_one (p ∙ sym q)

pub of_trace_once : (s : List ℕ) {x y : Result ℕ Error} → said x ≡ judged (read_all s) → said y ≡ judged (read_all s) → x ≡ y
of_trace_once s = count_once (read_all s)

pub of_capture_once : (o : Order) (s : List ℕ) {x y : Result ℕ Error} → said x ≡ judged (records_in o s) → said y ≡ judged (records_in o s) → x ≡ y
of_capture_once o s = count_once (records_in o s)
