-- The octets of an mFrame (document 01, "Octets of an mFrame"): "an 8-octet header, data, then four check octets".
-- Assumes nothing.
use Rattle.std.specs.Prelude.{◌≡◌, List, [], ◌∷◌, ◌++◌, ℕ, length}
use Rattle.octets.specs.Laid.{over}
use Rattle.codes.specs.Codes.{express_code, start_code, continuation_code, fragment_code, verify_code, respond_code}
use Rattle.mframe.specs.declared.Kind.{Kind}
use Rattle.mframe.specs.declared.Kind.TheVariants.{Express, Start, Continuation, Verify, Respond}

-- "E, S, V, R: seven octets 55, then the delimiter at place 7"
abbrev pub after_seven : ℕ → List ℕ
after_seven delimiter = 0x55 ∷ 0x55 ∷ 0x55 ∷ 0x55 ∷ 0x55 ∷ 0x55 ∷ 0x55 ∷ delimiter ∷ []

-- "C: six octets 55, the delimiter at place 6, a fragment code at place 7"
abbrev pub after_six : ℕ → ℕ → List ℕ
after_six delimiter fragment = 0x55 ∷ 0x55 ∷ 0x55 ∷ 0x55 ∷ 0x55 ∷ 0x55 ∷ delimiter ∷ fragment ∷ []

abbrev pub header_of : Kind → List ℕ
header_of Express = after_seven express_code
header_of (Start frame) = after_seven (start_code frame)
header_of (Continuation frame fragment) = after_six (continuation_code frame) (fragment_code fragment)
header_of Verify = after_seven verify_code
header_of Respond = after_seven respond_code

abbrev pub mframe_of : Kind → List ℕ → List ℕ → List ℕ
mframe_of kind body check = header_of kind ++ body ++ check

-- an mFrame laid at the front, and its length
pub record Laid (mframe out : List ℕ) (n : ℕ) (out' : List ℕ) : Type 0 where
  pub octets : out' ≡ over mframe out
  pub count : n ≡ length mframe
