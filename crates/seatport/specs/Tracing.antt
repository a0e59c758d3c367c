-- A record of a trace as C sees it: of the trace from that record on, the number that is returned, and where the content starts, how long it
-- is and where the next record starts. Assumes nothing.
use Rattle.std.specs.Prelude.{◌≡◌, List, ℕ}
use Rattle.trace.specs.Trace.{Said}
use Rattle.trace_words.specs.Content.{number_of, content_of}

-- the promise of reading a record
pub record Traced (s : Said) (number : ℕ) (content : List ℕ) : Type 0 where
  pub answer : number ≡ number_of s
  pub words : content ≡ content_of s
