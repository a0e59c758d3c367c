-- Laws of reading: when each answer is given of a place, what it hangs on, and what a capture has that is opened.
-- Assumes nothing.
use mathlib.Core.Path.{◌≡◌, refl, ap, ap₂, ◌∙◌}
use mathlib.Core.Bool.{Bool, true, false, cond, not}
use mathlib.Core.List.{List}
use Prim.Native.Nat.{ℕ, ◌+◌, ◌≤◌, ◌<◌}
use native.Mathlib.Omega.{arith}
use borrow.Author.Tests.{ltb-false, le-ltb}
use lib.Dec.{ltb, eqb}
use lib.ListN.{length}
use Rattle.rules.proofs.Tests.{tests, never}
use Rattle.trace.specs.Trace.{Said, limit, found, ended, refused, left}
use Rattle.pcap_fields.specs.Fields.{word_in}
use Rattle.pcap_fields.specs.declared.Order.{Order}
use Rattle.pcap_fields.specs.declared.Order.TheVariants.{Little, Big}
use Rattle.pcap_records.specs.Records.{file_header, header, magic, Opening, opens, shut, fields_of, open_of, stored_at, original_at, record_at}

-- the answers, in the order of the tests
module _ (o : Order) (s : List ℕ) (at : ℕ) where
  some : at < length s → left s at ≡ 0 → ⊥
  some h z = omega arith

  pub read_end : length s ≤ at → record_at o s at ≡ ended
  unfolding record_at
  read_end h = let z : left s at ≡ 0 = omega arith in simp tests

  pub header_cut : at < length s → left s at < header → record_at o s at ≡ refused 74
  unfolding record_at
  header_cut h a = let z = some h in simp tests

  pub stored_over : header ≤ left s at → limit < stored_at o s at → record_at o s at ≡ refused 75
  unfolding record_at
  stored_over h a = let z = some (omega arith) in simp tests

  pub original_other : header ≤ left s at → stored_at o s at ≤ limit → (stored_at o s at ≡ original_at o s at → ⊥) → record_at o s at ≡ refused 76
  unfolding record_at
  original_other h a b = let z = some (omega arith) in simp tests

  pub content_cut : header ≤ left s at → stored_at o s at ≤ limit → stored_at o s at ≡ original_at o s at → left s (at + header) < stored_at o s at
      → record_at o s at ≡ refused 77
  unfolding record_at
  content_cut h a b d = let z = some (omega arith) in simp tests

  whole : header ≤ left s at → stored_at o s at ≤ limit → stored_at o s at ≡ original_at o s at → stored_at o s at ≤ left s (at + header)
      → record_at o s at ≡ found (at + header) (stored_at o s at) (at + header + stored_at o s at)
  unfolding record_at
  whole h a b d = let z = some (omega arith) in simp tests

  pub read_whole : (n : ℕ) → stored_at o s at ≡ n → original_at o s at ≡ n → header ≤ left s at → n ≤ limit → n ≤ left s (at + header)
      → record_at o s at ≡ found (at + header) n (at + header + n)
  read_whole n e f h a d =
      let same : stored_at o s at ≡ original_at o s at = omega arith in
      whole h (omega arith) same (omega arith) ∙ ap (λ (k : ℕ). found (at + header) k (at + header + k)) e

-- a capture that is opened has all of its header
past_cut : (b : Bool) (x : Opening) (o : Order) → cond b (shut 70) x ≡ opens o → b ≡ false
past_cut true x o e = never (cc)
past_cut false x o e = refl

pub open_long : (s : List ℕ) (o : Order) → open_of s ≡ opens o → file_header ≤ length s
unfolding open_of
open_long s o e = ltb-false (length s) file_header (past_cut (ltb (length s) file_header) _ o e)

-- where it is there, the magic decides
pub open_whole : (s : List ℕ) → file_header ≤ length s
    → open_of s ≡ cond (eqb (word_in Little s 0) magic) (fields_of Little s) (cond (eqb (word_in Big s 0) magic) (fields_of Big s) (shut 71))
unfolding open_of
open_whole s h =
    ap (λ (b : Bool). cond b (shut 70) (cond (eqb (word_in Little s 0) magic) (fields_of Little s) (cond (eqb (word_in Big s 0) magic) (fields_of Big s) (shut 71))))
    (le-ltb (length s) file_header h)

-- what is said of a record hangs on four numbers
pub same_record : (o p : Order) (s t : List ℕ) (at : ℕ) → left t at ≡ left s at → left t (at + header) ≡ left s (at + header)
    → stored_at p t at ≡ stored_at o s at → original_at p t at ≡ original_at o s at → record_at p t at ≡ record_at o s at
unfolding record_at
same_record o p s t at a b c d =
    let tree : ℕ → ℕ → ℕ → ℕ → Said =
    λ l m n k. cond (eqb l 0) ended (cond (ltb l header) (refused 74) (cond (ltb limit n) (refused 75) (cond (not (eqb n k)) (refused 76) (cond (ltb m n) (refused 77) (found (at + header) n (at + header + n)))))) in
    ap₂ (λ (l m : ℕ). tree l m (stored_at p t at) (original_at p t at)) a b ∙ ap₂ (λ (n k : ℕ). tree (left s at) (left s (at + header)) n k) c d
