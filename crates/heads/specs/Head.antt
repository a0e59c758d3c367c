-- What the head of any octets says (document 01, "Receiving", with the heads of document 02, (vi)). Assumes nothing.
use Rattle.std.specs.Prelude.{Bool, true, false, cond, List, ℕ, ◌+◌, ltb, length, get_or, Option, Some, None, Result, Ok, Err}
use Rattle.delimiters.specs.Delimiters.{delimiter_of, fragment_of}
use Rattle.codes.specs.declared.FrameCount.{FrameCount}
use Rattle.codes.specs.declared.FragmentCount.{FragmentCount}
use Rattle.delimiters.specs.declared.Delimiter.{Delimiter}
use Rattle.delimiters.specs.declared.Delimiter.TheVariants as D
use Rattle.mframe.specs.declared.Kind.{Kind}
use Rattle.mframe.specs.declared.Kind.TheVariants as K
use Rattle.preambles.specs.Preamble.{leading}
use Rattle.faults.specs.Faults.{fault_number, fault_detail}
use Rattle.faults.specs.declared.Fault.{Fault}
use Rattle.heads.specs.declared.Head.{Head}

-- a head as the paper gives it: the kind and the place where the data begin, or a refusal's number and its value
pub data Reading : Type 0 where
  known : Kind → (place : ℕ) → Reading
  refused : (number detail : ℕ) → Reading

abbrev pub reading : Result Head Fault → Reading
reading (Ok head) = known head.kind head.place
reading (Err fault) = refused (fault_number fault) (fault_detail fault)

-- a header that ends at a place, of so many octets in all: behind it are 64 to 1,522, else 12 or 13
abbrev pub sized_of : Kind → (place all : ℕ) → Reading
sized_of kind place all = cond (ltb all (place + 64)) (refused 12 0) (cond (ltb (place + 1522) all) (refused 13 0) (known kind place))

-- a C whose fragment code is read: 17 is any octet but the four
abbrev pub coded_of : FrameCount → Option FragmentCount → (place all : ℕ) → Reading
coded_of frame (Some fragment) place all = sized_of (K.Continuation frame fragment) place all
coded_of frame None place all = refused 17 0

-- a C, with the fragment code at a place; "input that ends before its .. fragment code is 12"
abbrev pub fragmented_of : FrameCount → (place : ℕ) → List ℕ → Reading
fragmented_of frame place m = cond (ltb place (length m)) (coded_of frame (fragment_of (get_or m place 0)) (place + 1) (length m)) (refused 12 0)

-- by the delimiter, which ends before a place
abbrev pub delimited_of : Delimiter → (place : ℕ) → List ℕ → Reading
delimited_of D.Express place m = sized_of K.Express place (length m)
delimited_of (D.Start frame) place m = sized_of (K.Start frame) place (length m)
delimited_of (D.Continuation frame) place m = fragmented_of frame place m
delimited_of D.Verify place m = sized_of K.Verify place (length m)
delimited_of D.Respond place m = sized_of K.Respond place (length m)
delimited_of (D.Unknown bits) place m = refused 15 bits

-- behind n leading octets 55: "14 becomes eight or more"; "the delimiter is the first octet that isn't 55"; "input that ends before its delimiter
-- .. is 12". So the refusals come in the order 14, 15, 17, 12, 13.
abbrev pub behind : (n : ℕ) → List ℕ → Reading
behind n m = cond (ltb 7 n) (refused 14 0) (cond (ltb n (length m)) (delimited_of (delimiter_of (get_or m n 0)) (n + 1) m) (refused 12 0))

unfoldable pub head_of : List ℕ → Reading
head_of m = behind (leading m) m

-- whether a head is known
abbrev pub is_known : Reading → Bool
is_known (known kind place) = true
is_known (refused number detail) = false
