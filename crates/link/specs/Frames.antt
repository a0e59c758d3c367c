-- What demand 3 asks of the mFrames sent, which of them arrive, and the frames that it expects, clause by clause. Assumes nothing.
use Rattle.std.specs.Prelude.{◌≡◌, Bool, true, false, cond, ◌&&◌, List, [], ◌∷◌, ◌++◌, ℕ, ◌-◌, eqb, ltb, Option, Some, None}
use Rattle.link.specs.Sender.{Fate, arrives, lost, MFrame, express, part, order}

-- "each frame's octets the same until its end": a part's body is that of the frame in progress, if there is one; begun has that
abbrev pub Same : Option (List ℕ) → List ℕ → Type 0
Same None body = Unit {0}
Same (Some begun) body = body ≡ begun

abbrev pub progress : Bool → List ℕ → Option (List ℕ)
progress true body = None
progress false body = Some body

abbrev pub SameToEnd : Option (List ℕ) → List MFrame → Type 0
SameToEnd begun [] = Unit {0}
SameToEnd begun (express body octets fate ∷ ms) = SameToEnd begun ms
SameToEnd begun (part body done octets fate ∷ ms) = Same begun body × SameToEnd (progress done body) ms
SameToEnd begun (order octets fate ∷ ms) = SameToEnd begun ms

-- the fates of the preemptable mFrames, "other kinds not counted"
unfoldable pub fates : List MFrame → List Fate
fates [] = []
fates (express body octets fate ∷ ms) = fates ms
fates (part body done octets fate ∷ ms) = fate ∷ fates ms
fates (order octets fate ∷ ms) = fates ms

-- "never four .. in a row" are lost
abbrev pub NeverFour : List Fate → Type 0
NeverFour l = (before after : List Fate) → l ≡ before ++ (lost ∷ lost ∷ lost ∷ lost ∷ after) → ⊥

-- "the link drops any number of leading 55s": octets without n of theirs, or without as many as there are
unfoldable pub shortened : (n : ℕ) → List ℕ → List ℕ
shortened n [] = []
shortened n (x ∷ m) = cond (ltb 0 n && eqb x 0x55) (shortened (n - 1) m) (x ∷ m)

-- what an mFrame brings, if it arrives
abbrev pub brings : Fate → List ℕ → List (List ℕ)
brings (arrives dropped) octets = shortened dropped octets ∷ []
brings lost octets = []

-- "mFrames arrive unaltered" but for that, "in order and once, except that some are lost"
unfoldable pub arrivals : List MFrame → List (List ℕ)
arrivals [] = []
arrivals (express body octets fate ∷ ms) = brings fate octets ++ arrivals ms
arrivals (part body done octets fate ∷ ms) = brings fate octets ++ arrivals ms
arrivals (order octets fate ∷ ms) = brings fate octets ++ arrivals ms

-- a body, if its mFrame arrives
abbrev pub if_arrives : Fate → List ℕ → List (List ℕ)
if_arrives (arrives dropped) body = body ∷ []
if_arrives lost body = []

-- the express lane: an express frame is one mFrame, and ends with it
unfoldable pub express_expected : List MFrame → List (List ℕ)
express_expected [] = []
express_expected (express body octets fate ∷ ms) = if_arrives fate body ++ express_expected ms
express_expected (part body done octets fate ∷ ms) = express_expected ms
express_expected (order octets fate ∷ ms) = express_expected ms

-- a preemptable frame: its body, and the fates of its mFrames, the last one's first
pub data Frame : Type 0 where
  frame : (body : List ℕ) → List Fate → Frame

-- the preemptable frames "sent to their end"; begun has the fates of the frame in progress
unfoldable pub frames_sent : List Fate → List MFrame → List Frame
frames_sent begun [] = []
frames_sent begun (express body octets fate ∷ ms) = frames_sent begun ms
frames_sent begun (part body true octets fate ∷ ms) = frame body (fate ∷ begun) ∷ frames_sent [] ms
frames_sent begun (part body false octets fate ∷ ms) = frames_sent (fate ∷ begun) ms
frames_sent begun (order octets fate ∷ ms) = frames_sent begun ms

unfoldable pub none_lost : List Fate → Bool
none_lost [] = true
none_lost (arrives dropped ∷ l) = none_lost l
none_lost (lost ∷ l) = false

-- one, or none
abbrev pub if_so : Bool → List ℕ → List (List ℕ)
if_so true x = x ∷ []
if_so false x = []

-- those "that lost no mFrame"
unfoldable pub unharmed : List Frame → List (List ℕ)
unharmed [] = []
unharmed (frame body l ∷ fs) = if_so (none_lost l) body ++ unharmed fs

-- the preemptable lane
abbrev pub preemptable_expected : List MFrame → List (List ℕ)
preemptable_expected ms = unharmed (frames_sent [] ms)
