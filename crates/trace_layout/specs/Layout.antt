-- Contents laid out as a trace, and a trace, or whatever else is read record by record, read to its end.
-- Assumes nothing.
use Rattle.std.specs.Prelude.{◌≡◌, List, [], ◌∷◌, ◌++◌, ℕ, zero, suc, ◌+◌, ◌-◌, ◌/◌, ◌%◌, ◌<◌, ◌≤◌, length, take, drop}
use Rattle.trace.specs.Trace.{header, limit, kind, Said, found, ended, refused, read_at}

-- "2 octets, little-endian"
abbrev pub two_octets : ℕ → List ℕ
two_octets n = n % 256 ∷ n / 256 % 256 ∷ []

-- "length of its content (2 octets, little-endian), kind (2, little-endian), content"
abbrev pub record_of : List ℕ → List ℕ
record_of c = two_octets (length c) ++ two_octets kind ++ c

unfoldable pub trace_of : List (List ℕ) → List ℕ
trace_of [] = []
trace_of (c ∷ cs) = record_of c ++ trace_of cs

-- the place of the k-th record, k from 0: behind those before it
abbrev pub place_of : List (List ℕ) → ℕ → ℕ
place_of cs k = length (trace_of (take k cs))

-- the contents of the records that were read, and what is said behind the last
pub record Listing : Type 0 where
  pub contents : List (List ℕ)
  pub stop : Said

-- a record that is found and the rest behind it, or what stops the reading
abbrev pub onward : List ℕ → (ℕ → Listing) → Said → Listing
onward s rest (found place n next) = record { contents = take n (drop place s) ∷ (rest next).contents; stop = (rest next).stop }
onward s rest ended = record { contents = []; stop = ended }
onward s rest (refused k) = record { contents = []; stop = refused k }

-- reading from a place on, n records at most; read says what stands at a place
unfoldable pub list_from : (ℕ → Said) → List ℕ → ℕ → ℕ → Listing
list_from read s zero at = record { contents = []; stop = read at }
list_from read s (suc n) at = onward s (list_from read s n) (read at)

-- reading from a place on to the end or a refusal: there are no more records than octets
abbrev pub rest_from : (ℕ → Said) → List ℕ → ℕ → Listing
rest_from read s at = list_from read s (length s - at) at

-- all of a trace
abbrev pub read_all : List ℕ → Listing
read_all s = rest_from (read_at s) s 0

-- a way of reading: the end is at the end, and a record that is found ends further on
pub record Reading (read : ℕ → Said) (s : List ℕ) : Type 0 where
  pub ends : (at : ℕ) → length s ≤ at → read at ≡ ended
  pub grows : (at place n next : ℕ) → read at ≡ found place n next → at < next

-- a way of reading records that have a header: one that is found also ends further on by four octets at least, in the octets, right behind its
-- content, which is no longer than the limit
pub record Headed (read : ℕ → Said) (s : List ℕ) : Type 0 where
  pub ends : (at : ℕ) → length s ≤ at → read at ≡ ended
  pub grows : (at place n next : ℕ) → read at ≡ found place n next → at < next
  pub least : (at place n next : ℕ) → read at ≡ found place n next → at + header ≤ next
  pub behind : (at place n next : ℕ) → read at ≡ found place n next → next ≡ place + n
  pub inside : (at place n next : ℕ) → read at ≡ found place n next → next ≤ length s
  pub within : (at place n next : ℕ) → read at ≡ found place n next → n ≤ limit
