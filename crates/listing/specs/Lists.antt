-- What a record of the trace makes (document 01, "Trace and listing"): a call of the receiver, and the line of its answer.
-- Assumes nothing.
use Rattle.std.specs.Prelude.{◌≡◌, List, ℕ, length}
use Rattle.text.specs.declared.Page.{Page}
use Rattle.text.specs.Pages.{Puts}
use Rattle.receiver_answers.specs.Answers.{Said}
use Rattle.receiver_record.specs.declared.Record.{Record}
use Rattle.receive.specs.Receive.{received_of, buffer_of}
use Rattle.lines.specs.Lines.{record_line}

-- the line of a numbered record with an answer
abbrev pub line_of : ℕ → Said → List ℕ
line_of number s = record_line number s.number s.detail

-- the record after the call, the assembly buffer, which was b and is b', and the line on the page, which was p and is p'
pub record Lists (number : ℕ) (content : List ℕ) (r : Record) (b : List ℕ) (p : Page) (r' : Record) (b' : List ℕ) (p' : Page) : Type 0 where
  pub after : r' ≡ (received_of content r (length b)).after
  pub buffer : b' ≡ buffer_of content r b
  pub line : Puts (line_of number (received_of content r (length b)).said) p p'
