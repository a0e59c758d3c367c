-- What an octet says as a delimiter and as a fragment code, by the table of document 01, "Octets of an mFrame", and its distance from the
-- eleven delimiters. Assumes nothing.
use Rattle.std.specs.Prelude.{cond, List, [], ◌∷◌, ◌++◌, map, ℕ, min, eqb, Option, Some, None}
use Rattle.std.specs.Int.Bits.{bit_xor}
use Rattle.std.specs.Int.Count.{ones}
use Rattle.codes.specs.Codes.{frame, fragment, express_code, start_codes, continuation_codes, verify_code, respond_code, fragment_codes}
use Rattle.delimiters.specs.declared.Delimiter.{Delimiter}
use Rattle.delimiters.specs.declared.Delimiter.TheVariants as D
use Rattle.codes.specs.declared.FragmentCount.{FragmentCount}

-- the eleven delimiters, and what each says
abbrev pub eleven : List ℕ
eleven = (express_code ∷ start_codes) ++ continuation_codes ++ (verify_code ∷ respond_code ∷ [])

abbrev pub kinds : List Delimiter
kinds =
    (D.Express ∷ map (λ n. D.Start (frame n)) (0 ∷ 1 ∷ 2 ∷ 3 ∷ []))
    ++ map (λ n. D.Continuation (frame n)) (0 ∷ 1 ∷ 2 ∷ 3 ∷ [])
    ++ (D.Verify ∷ D.Respond ∷ [])

-- the number of bits by which two octets differ
abbrev pub differing : ℕ → ℕ → ℕ
differing x y = ones (bit_xor x y)

-- the least of some numbers of bits; octets differ in eight at most
unfoldable pub least_of : List ℕ → ℕ
least_of [] = 8
least_of (n ∷ ns) = min n (least_of ns)

-- "the least number of bits by which it differs from any of the eleven"
unfoldable pub distance_of : ℕ → ℕ
distance_of x = least_of (map (differing x) eleven)

-- what an octet says: the meaning that stands where its code stands, and other where it is none of the codes
unfoldable pub meaning : {A : Type 0} → ℕ → List ℕ → List A → A → A
meaning x [] ms other = other
meaning x (c ∷ cs) [] other = other
meaning x (c ∷ cs) (m ∷ ms) other = cond (eqb x c) m (meaning x cs ms other)

unfoldable pub delimiter_of : ℕ → Delimiter
delimiter_of x = meaning x eleven kinds (D.Unknown (distance_of x))

unfoldable pub fragment_of : ℕ → Option FragmentCount
fragment_of x = meaning x fragment_codes (map (λ n. Some (fragment n)) (0 ∷ 1 ∷ 2 ∷ 3 ∷ [])) None
