-- A capture of any contents is read back: it opens in little-endian order, and each record gives its content.
-- Assumes nothing.
use mathlib.Core.Path.{◌≡◌, refl, ap, ap₂, ◌∙◌}
use mathlib.Core.List.{List, [], ◌++◌}
use Prim.Native.Nat.{ℕ, ◌+◌, ◌/◌, ◌%◌, ◌≤◌}
use native.Mathlib.Omega.{arith}
use lib.ListN.{length, take, drop, get_or, length-append}
use lib.Seq.{get_or-append-add, take-append_seam, drop-append-add}
use Rattle.rules.proofs.Tests.{tests}
use Rattle.fours.specs.Word.{octets_of, word_of}
use Rattle.fours.proofs.Words.{word_back}
use Rattle.trace.specs.Trace.{limit, found, ended}
use Rattle.trace_layout.proofs.Laid.{Layout, Standing, laid_read}
use Rattle.pcap_fields.specs.Fields.{word_in}
use Rattle.pcap_fields.specs.declared.Order.TheVariants.{Little}
use Rattle.pcap_records.specs.Records.{file_header, header, opens, open_of, stored_at, original_at, record_at}
use Rattle.pcap_records.proofs.Laws.{read_whole}
use Rattle.pcap_headers.specs.Headers as headers
use Rattle.pcap_headers.specs.Headers.{capture_record, capture_records, capture_of}
use Rattle.pcap_headers.proofs.Lengths.{length_file_header, length_record}
use Rattle.pcap_lists.specs.Lists.{records_in}
use Rattle.pcap_records.proofs.Inside.{capture_reading}

-- a record behind any octets and before any others
module _ (before c behind : List ℕ) (h : length c ≤ limit) where
  abbrev laid_out : List ℕ
  laid_out = capture_record c ++ behind

  abbrev around : List ℕ
  around = before ++ laid_out

  at_place : (k j : ℕ) → j ≡ length before + k → get_or around j 0 ≡ get_or laid_out k 0
  at_place k j e = ap (λ (i : ℕ). get_or around i 0) e ∙ get_or-append-add before laid_out k 0

  -- four octets of the record that are those of its length
  length_at : (k : ℕ) → get_or laid_out k 0 ≡ length c % 256 → get_or laid_out (k + 1) 0 ≡ length c / 256 % 256
      → get_or laid_out (k + 2) 0 ≡ length c / 65536 % 256 → get_or laid_out (k + 3) 0 ≡ length c / 16777216 % 256 → word_in Little around (length before + k) ≡ length c
  length_at k a b d e =
      let at : ℕ = length before + k in
      ap₂ (λ (x y : ℕ). word_of x y (get_or around (at + 2) 0) (get_or around (at + 3) 0)) (at_place k at refl ∙ a) (at_place (k + 1) (at + 1) (omega arith) ∙ b)
      ∙ ap₂ (word_of (length c % 256) (length c / 256 % 256)) (at_place (k + 2) (at + 2) (omega arith) ∙ d) (at_place (k + 3) (at + 3) (omega arith) ∙ e)
      ∙ word_back (length c) (omega arith)

  stored_read : stored_at Little around (length before) ≡ length c
  unfolding octets_of
  stored_read = length_at 8 refl refl refl refl

  original_read : original_at Little around (length before) ≡ length c
  unfolding octets_of
  original_read = length_at 12 refl refl refl refl

  around_length : length around ≡ length before + header + length c + length behind
  around_length =
      omega (arith, length-append before laid_out, length-append (capture_record c) behind, length_record c)

  record_read : record_at Little around (length before) ≡ found (length before + header) (length c) (length before + length (capture_record c))
  record_read =
      let l = around_length in
      let next : length before + header + length c ≡ length before + length (capture_record c) = omega (arith, length_record c) in
      read_whole Little around (length before) (length c) stored_read original_read (omega arith) h (omega arith)
      ∙ ap (found (length before + header) (length c)) next

  content_read : take (length c) (drop (length before + header) around) ≡ c
  unfolding octets_of
  content_read = ap (λ (x : List ℕ). take (length c) x) (drop-append-add before laid_out header) ∙ take-append_seam c behind

capture_layout : Layout capture_record capture_records
unfolding capture_records
capture_layout = record { none = refl; more = λ c cs. refl }

stands : Standing (record_at Little) (capture_reading Little) capture_record capture_records capture_layout
stands before c behind h = record { place = length before + header; found-there = record_read before c behind h; content = content_read before c behind h }

-- all of a capture
pub capture_opens : (cs : List (List ℕ)) → open_of (capture_of cs) ≡ opens Little
unfolding open_of octets_of
capture_opens cs =
    let long : file_header ≤ length (capture_of cs) = omega (arith, length-append headers.file_header (capture_records cs), length_file_header) in simp tests

pub capture_back : (cs : List (List ℕ)) → ((i : ℕ) → length (get_or cs i []) ≤ limit) → records_in Little (capture_of cs) ≡ record { contents = cs; stop = ended }
unfolding octets_of
capture_back cs f = laid_read (record_at Little) (capture_reading Little) capture_record capture_records capture_layout stands headers.file_header cs f
