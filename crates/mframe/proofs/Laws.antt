-- What an mFrame has: counts under 4, and its length.
-- Assumes nothing.
use mathlib.Core.Path.{◌≡◌, refl}
use mathlib.Core.List.{List, ◌++◌}
use Prim.Native.Nat.{ℕ, ◌+◌, ◌<◌}
use native.Mathlib.Omega.{arith}
use lib.ListN.{length, length-append}
use Rattle.mframe.specs.declared.Kind.{Kind}
use Rattle.mframe.specs.declared.Kind.TheVariants.{Express, Start, Continuation, Verify, Respond}
use Rattle.mframe.specs.Octets.{header_of, mframe_of}

-- the counts of a kind are under 4
abbrev pub Counted : Kind → Type 0
Counted Express = Unit {0}
Counted (Start n) = n.0 < 4
Counted (Continuation n k) = (n.0 < 4) × (k.0 < 4)
Counted Verify = Unit {0}
Counted Respond = Unit {0}

-- eight octets of header
pub header_length : (kind : Kind) → length (header_of kind) ≡ 8
header_length Express = refl
header_length (Start n) = refl
header_length (Continuation n k) = refl
header_length Verify = refl
header_length Respond = refl

pub mframe_length : (kind : Kind) (body check : List ℕ) → length (mframe_of kind body check) ≡ 8 + length body + length check
mframe_length kind body check =
    omega (arith, length-append (header_of kind ++ body) check, length-append (header_of kind) body, header_length kind)
