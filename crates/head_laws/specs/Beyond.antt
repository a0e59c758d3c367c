-- More octets than any mFrame has. Assumes nothing.
use Rattle.heads.specs.Head.{Reading, known, refused}

-- what their head says, by what that of the first 1,531 says: a refusal stays (14, 15, 17 or 13; so many octets are never 12), a known head is 13
abbrev pub beyond : Reading → Reading
beyond (known kind place) = refused 13 0
beyond (refused number detail) = refused number detail
