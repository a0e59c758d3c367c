-- A trace without fragments, V and R: its capture for eyes is the plain one.
-- Assumes nothing.
use mathlib.Core.Path.{◌≡◌, refl, sym, ap, ap₂}
use mathlib.Core.Bool.{false}
use mathlib.Core.List.{List, [], ◌∷◌}
use Prim.Native.Nat.{ℕ, suc}
use lib.ListN.{length, get_or, drop}
use Rattle.rules.proofs.Tests.{failed}
use Rattle.codes.specs.declared.FrameCount.{FrameCount}
use Rattle.crc.specs.Crc.{all_ones}
use Rattle.endings.specs.Judge.{ending_of}
use Rattle.endings.specs.declared.Ending.{Ending}
use Rattle.endings.specs.declared.Ending.TheVariants.{Done, More, Damaged}
use Rattle.heads.specs.Head.{Reading, known, refused, head_of}
use Rattle.heads.proofs.Heads.{refused_from_ten, Good}
use Rattle.mframe.specs.declared.Kind.TheVariants as K
use Rattle.receiver_record.specs.declared.Record.{Record}
use Rattle.receiver_record.specs.Records.{fresh}
use Rattle.outcomes.specs.Outcomes.{Step}
use Rattle.starting.specs.Starting.{start_of}
use Rattle.assembly.specs.Steps.{express_of}
use Rattle.receive.specs.Receive.{by_head, received_of}
use Rattle.receive.proofs.Cases.{by_cases}
use Rattle.trace_layout.specs.Layout.{read_all}
use Rattle.pcap_headers.specs.Headers.{capture_of}
use Rattle.pcap_lists.specs.Lists.{judged}
use Rattle.pcap.specs.Captures.{outcome, write_of}
use Rattle.eyes_records.specs.Shown.{right_mcrc, is_right}
use Rattle.eyes_records.proofs.Right.{from_ten_other}
use Rattle.eyes_records.proofs.Laws.{shown_other}
use Rattle.eyes.specs.Eyes.{buffer_length, shown_from, eyes_of}
use Rattle.eyes_laws.specs.Changed.{has_more, is_part}

express_other : (e : Ending) (r : Record) → right_mcrc (express_of e r).said.number ≡ false
express_other (Done n) r = refl
express_other (More n running) r = refl
express_other Damaged r = refl

start_other : (f : FrameCount) (e : Ending) (r : Record) → has_more e ≡ false → right_mcrc (start_of f e r).said.number ≡ false
start_other f (Done n) r q = refl
start_other f (More n running) r q = failed (sym q)
start_other f Damaged r q = refl

module _ (m : List ℕ) (r : Record) where
  by_head_lem : (h : Reading) → Good (length m) h → is_part h m ≡ false → right_mcrc (by_head h m r).said.number ≡ false
  by_head_lem (known K.Express place) g q = express_other (ending_of all_ones (drop place m)) r
  by_head_lem (known (K.Start f) place) g q = start_other f (ending_of all_ones (drop place m)) r q
  by_head_lem (known (K.Continuation f n) place) g q = failed (sym q)
  by_head_lem (known K.Verify place) g q = failed (sym q)
  by_head_lem (known K.Respond place) g q = failed (sym q)
  by_head_lem (refused n d) g q = from_ten_other n (refused_from_ten g)

  -- what is no fragment, V or R is never answered 2, 3 or 4
  whole_other : is_part (head_of m) m ≡ false → is_right m r buffer_length ≡ false
  whole_other q = by_cases (λ (p : Step). right_mcrc p.said.number ≡ false) m r buffer_length refl refl (λ l g. by_head_lem (head_of m) g q)

same_contents : (r : Record) (cs : List (List ℕ)) → ((i : ℕ) → is_part (head_of (get_or cs i [])) (get_or cs i []) ≡ false) → shown_from r cs ≡ cs
unfolding shown_from
same_contents r [] w = refl
same_contents r (c ∷ cs) w =
    ap₂ (λ (x : List ℕ) (xs : List (List ℕ)). x ∷ xs) (shown_other c r buffer_length (whole_other c r (w 0))) (same_contents (received_of c r buffer_length).after cs (λ i. w (suc i)))

-- the same answer, and the same octets
pub plain_without_parts : (s : List ℕ) → ((i : ℕ) → is_part (head_of (get_or (read_all s).contents i [])) (get_or (read_all s).contents i []) ≡ false)
    → (room : ℕ) → eyes_of s room ≡ write_of s room
plain_without_parts s w room = ap (λ (cs : List (List ℕ)). outcome (judged (read_all s)) (capture_of cs) room) (same_contents fresh (read_all s).contents w)
