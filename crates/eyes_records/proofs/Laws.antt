-- Laws of what is shown, for callers: an mFrame whose mCRC is right keeps all but its last four octets, which are inverted; any other stays.
-- Assumes nothing.
use mathlib.Core.Path.{◌≡◌, refl, sym, ap, ◌∙◌}
use mathlib.Core.Bool.{true, false}
use mathlib.Core.List.{List, ◌++◌, map, append_assoc}
use Prim.Native.Nat.{ℕ, ◌+◌, ◌-◌, ◌≤◌, ◌<◌}
use native.Mathlib.Omega.{arith}
use lib.ListN.{length, get_or, length-append, length-drop, length-map, take-append-drop}
use lib.Seq.{take_all}
use Rattle.rules.proofs.Tests.{by_test}
use Rattle.octets.specs.Laid.{laid}
use Rattle.octets.proofs.Laid.{laid_end}
use Rattle.fours.specs.Word.{word_at, octets_of}
use Rattle.fours.proofs.Words.{four_of}
use Rattle.crc.specs.Crc.{all_ones, inverted, standard_mcrc_of}
use Rattle.crc.proofs.Standard.{standard_length, standard_inverts, inverted_word}
use Rattle.endings.specs.Judge.{data_of, last_four}
use Rattle.endings.proofs.Endings.{data_length, four_last}
use Rattle.heads.specs.Head.{head_of}
use Rattle.pcap_headers.specs.Headers.{capture_header, capture_record}
use Rattle.receiver_answers.specs.declared.Answer.{Answer}
use Rattle.receiver_answers.specs.declared.Answer.TheVariants as A
use Rattle.receiver_answers.specs.Answers.{refusal_number, drop_number, said}
use Rattle.receiver_answers.proofs.Numbers.{refusal_from_ten, drop_from_ten}
use Rattle.receiver_record.specs.declared.Record.{Record}
use Rattle.eyes_records.specs.Shown.{right_mcrc, has_mcrc, register_behind, is_right, shown_of}
use Rattle.eyes_records.proofs.Right.{from_ten_other, right}

-- the answers that say so are those whose number does
pub has_right : (a : Answer) → has_mcrc a ≡ right_mcrc (said a).number
has_right (A.Express n) = refl
has_right (A.Delivered n) = refl
has_right (A.Kept n) = refl
has_right A.VerifyHeard = refl
has_right A.RespondHeard = refl
has_right (A.Refused why) = sym (from_ten_other (refusal_number why) (refusal_from_ten why))
has_right (A.Dropped why) = sym (from_ten_other (drop_number why) (drop_from_ten why))

-- the last four octets inverted, as the code has them: as one number
pub inverted_last : (m : List ℕ) → ((k : ℕ) → get_or m k 0 < 256) → 4 ≤ length m → octets_of (all_ones - word_at m (length m - 4)) ≡ map inverted (last_four m)
inverted_last m o h =
    let i : ℕ = length m - 4 in
    inverted_word (get_or m i 0) (get_or m (i + 1) 0) (get_or m (i + 2) 0) (get_or m (i + 3) 0) (o i) (o (i + 1)) (o (i + 2)) (o (i + 3))
    ∙ ap (map inverted) (sym (four_of m i (omega arith)) ∙ take_all 4 (last_four m) (omega (arith, length-drop i m)))

module _ (m : List ℕ) (r : Record) (room : ℕ) where
  -- what is shown of an mFrame whose mCRC is right, and of any other
  pub shown_standard : is_right m r room ≡ true → shown_of m r room ≡ data_of m ++ standard_mcrc_of (register_behind (head_of m) m r)
  unfolding shown_of
  shown_standard q = simp q

  pub shown_right : is_right m r room ≡ true → shown_of m r room ≡ data_of m ++ map inverted (last_four m)
  shown_right q =
      shown_standard q
      ∙ ap (λ (l : List ℕ). data_of m ++ l) (sym (standard_inverts (register_behind (head_of m) m r)) ∙ ap (map inverted) (sym (right m r room q).mcrc))

  pub shown_other : is_right m r room ≡ false → shown_of m r room ≡ m
  unfolding shown_of
  shown_other q = simp q

  -- "lengths stay"
  pub shown_length : length (shown_of m r room) ≡ length m
  unfolding shown_of
  shown_length =
      by_test (λ (l : List ℕ). length l ≡ length m) (is_right m r room)
      (λ q. let e = (right m r room q).enough in
      omega (arith, e, data_length m, length-append (data_of m) (standard_mcrc_of (register_behind (head_of m) m r)), standard_length (register_behind (head_of m) m r)))
      (λ q. refl)

-- a record by all but its last four octets, and those; other four in their place leave its header as it is
abbrev pub front : List ℕ → List ℕ
front m = capture_header (length m) ++ data_of m

pub front_length : (m : List ℕ) → length (front m) ≡ 16 + (length m - 4)
unfolding octets_of
front_length m = omega (arith, length-append (capture_header (length m)) (data_of m), data_length m)

pub record_split : (m : List ℕ) → capture_record m ≡ front m ++ last_four m
record_split m =
    ap (λ (l : List ℕ). capture_header (length m) ++ l) (sym (take-append-drop (length m - 4) m)) ∙ sym (append_assoc (capture_header (length m)) (data_of m) (last_four m))

pub record_anew : (m check : List ℕ) → 4 ≤ length m → length check ≡ 4 → capture_record (data_of m ++ check) ≡ front m ++ check
record_anew m check h e =
    let same : length (data_of m ++ check) ≡ length m = omega (arith, length-append (data_of m) check, data_length m) in
    ap (λ (k : ℕ). capture_header k ++ (data_of m ++ check)) same ∙ sym (append_assoc (capture_header (length m)) (data_of m) check)

pub four_inverted : (m : List ℕ) → 4 ≤ length m → length (map inverted (last_four m)) ≡ 4
four_inverted m h = omega (arith, length-map (last_four m) inverted, four_last m h)

-- a record whose last four octets are laid anew
pub end_anew : (m out check : List ℕ) (at : ℕ) → 4 ≤ length m → length check ≡ 4 → at + 16 + length m ≤ length out
    → laid (laid out at (capture_record m)) (at + 16 + length m - 4) check ≡ laid out at (capture_record (data_of m ++ check))
end_anew m out check at h e room =
    let size = front_length m in
    let four = four_last m h in
    ap (λ (l : List ℕ). laid (laid out at l) (at + 16 + length m - 4) check) (record_split m)
    ∙ laid_end out (front m) (last_four m) check at (at + 16 + length m - 4) (omega arith) (omega arith) (omega arith) ∙ ap (laid out at) (sym (record_anew m check h e))
