-- The verification event as C sees it: the number that is returned, whether a V is ordered, and the record's words afterwards.
-- Assumes nothing.
use Rattle.std.specs.Prelude.{◌≡◌, cond, ◌&&◌, List, ℕ}
use Rattle.verify_answers.specs.Answers.{Told}
use Rattle.verify.specs.Verify.{step_of}
use Rattle.words.specs.Words.{flag}
use Rattle.verify_words.specs.Link.{link_words, link_fits, link_of}
use Rattle.event_words.specs.Events.{is_event, event_of}

-- what comes of an event
pub record Verifying : Type 0 where
  pub number : ℕ
  pub ordered : ℕ
  pub link : List ℕ

abbrev pub told : Told → Verifying
told t = record { number = t.said.number; ordered = flag t.said.ordered; link = link_words t.after }

-- "Any other values are refused with 40 and handed back"
abbrev pub unfit : List ℕ → Verifying
unfit w = record { number = 40; ordered = 0; link = w }

unfoldable pub verifying_of : List ℕ → ℕ → ℕ → Verifying
verifying_of w event wait = cond (link_fits w && is_event event) (told (step_of (link_of w) (event_of event wait))) (unfit w)

-- the promise of the event: the number, whether a V is ordered, and the record's words
pub record Taken (p : Verifying) (number ordered : ℕ) (link : List ℕ) : Type 0 where
  pub answer : number ≡ p.number
  pub value : ordered ≡ p.ordered
  pub after : link ≡ p.link
