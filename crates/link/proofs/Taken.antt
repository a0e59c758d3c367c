-- What a sender wrote, as the receiving calls take it: by its kind, its data and its check octets. Assumes nothing.
use mathlib.Core.Path.{◌≡◌, refl, ap, ◌∙◌}
use mathlib.Core.Bool.{true, cond}
use mathlib.Core.List.{List, [], ◌++◌, append_assoc}
use Prim.Native.Nat.{ℕ, ◌≤◌}
use native.Mathlib.Omega.{arith}
use borrow.Author.Tests.{le-ltb}
use lib.Dec.{eqb}
use lib.ListN.{length, drop, length-append}
use lib.Seq.{drop_at}
use Rattle.endings.proofs.Endings.{data_of_lem}
use Rattle.mframe.specs.Octets.{header_of, mframe_of}
use Rattle.heads.specs.Head.{head_of}
use Rattle.mframe.specs.declared.Kind.{Kind}
use Rattle.mframe.proofs.Laws.{Counted, header_length}
use Rattle.heads.proofs.Laws.{head_read}
use Rattle.receiver_record.specs.declared.Record.{Record}
use Rattle.receiver_record.specs.Records.{fresh, in_range}
use Rattle.assembly.specs.Steps.{step_of}
use Rattle.receive.specs.Receive.{received_of, left_of, buffer_of}
use Rattle.express_body.specs.Body.{body_of}
use Rattle.link.specs.Frames.{shortened}
use Rattle.link.proofs.Shortened.{Reads, shortened_reads}

-- the data and check octets of an mFrame
pub record Carried (kind : Kind) (part check : List ℕ) : Type 0 where
  pub counted : Counted kind
  pub low : 60 ≤ length part
  pub high : length part ≤ 1518
  pub four : length check ≡ 4

module _ (kind : Kind) (part check : List ℕ) (f : Carried kind part check) where
  -- it is read, also without some of its leading octets 55
  pub reads : (dropped : ℕ) → Reads kind (part ++ check) (shortened dropped (mframe_of kind part check))
  reads dropped =
      let n = length-append part check in
      shortened_reads dropped (mframe_of kind part check)
      (record {
        place = 8;
        head = ap head_of (append_assoc (header_of kind) part check) ∙ head_read (part ++ check) (omega arith) (omega arith) kind f.counted;
        behind = ap (drop 8) (append_assoc (header_of kind) part check) ∙ drop_at (header_of kind) (part ++ check) 8 (header_length kind);
      })

  module _ {m : List ℕ} (is : Reads kind (part ++ check) m) where
    pub taken : (r : Record) (room : ℕ) → 1518 ≤ room → in_range r ≡ true → received_of m r room ≡ step_of kind (part ++ check) r
    unfolding received_of
    taken r room h e = rw (le-ltb room 1518 h, e, is.head, is.behind)

    pub left : (r : Record) (b : List ℕ) → 1518 ≤ length b → in_range r ≡ true → buffer_of m r b ≡ left_of (step_of kind (part ++ check) r).said part b
    unfolding buffer_of
    left r b h e = rw (taken r (length b) h e, is.head, is.behind, data_of_lem part check f.four)

    pub body : body_of m ≡ cond (eqb (step_of kind (part ++ check) fresh).said.number 0) part []
    unfolding body_of in_range
    body = rw (taken fresh 1518 (omega arith) refl, is.head, is.behind, data_of_lem part check f.four)
