-- What was written is read: the head of an mFrame of any kind.
-- Assumes nothing.
use mathlib.Core.Path.{◌≡◌, refl, sym, ap, ◌∙◌}
use mathlib.Core.Bool.{Bool, true, false, false≢true}
use mathlib.Core.List.{List, ◌++◌}
use Prim.Native.Nat.{ℕ, ◌+◌, ◌≤◌}
use native.Mathlib.Omega.{arith}
use borrow.Author.Tests.{ne_eqb, lt-ltb, le-ltb}
use lib.Dec.{eqb, ltb}
use lib.ListN.{length, length-append}
use Rattle.codes.specs.Codes.{express_code, start_code, continuation_code, fragment_code, verify_code, respond_code}
use Rattle.delimiters.specs.Delimiters.{meaning, delimiter_of}
use Rattle.delimiters.specs.declared.Delimiter.{Delimiter}
use Rattle.delimiters.specs.declared.Delimiter.TheVariants as D
use Rattle.delimiters.proofs.Laws.{start_read, continuation_read, fragment_read, express_read, verify_read, respond_read}
use Rattle.mframe.specs.declared.Kind.{Kind}
use Rattle.mframe.specs.declared.Kind.TheVariants.{Express, Start, Continuation, Verify, Respond}
use Rattle.mframe.specs.Octets.{after_seven, after_six, header_of}
use Rattle.preambles.specs.Preamble.{leading}
use Rattle.heads.specs.Head.{known, sized_of, delimited_of, head_of}
use Rattle.mframe.proofs.Laws.{Counted, header_length}

-- 55 is no delimiter
abbrev is_delimiter : Delimiter → Bool
is_delimiter D.Express = true
is_delimiter (D.Start frame) = true
is_delimiter (D.Continuation frame) = true
is_delimiter D.Verify = true
is_delimiter D.Respond = true
is_delimiter (D.Unknown bits) = false

not_55 : (x : ℕ) → is_delimiter (delimiter_of x) ≡ true → eqb x 0x55 ≡ false
unfolding delimiter_of meaning
not_55 x e = ne_eqb x 0x55 (λ q. false≢true (ap (λ (y : ℕ). is_delimiter (delimiter_of y)) (sym q) ∙ e))

-- a header before octets of a good length
module _ (rest : List ℕ) (enough : 64 ≤ length rest) (fits : length rest ≤ 1522) where
  sized : (kind : Kind) → sized_of kind 8 (length (header_of kind ++ rest)) ≡ known kind 8
  sized kind =
      let n : length (header_of kind ++ rest) ≡ 8 + length rest = omega (arith, length-append (header_of kind) rest, header_length kind) in
      let low : ltb (length (header_of kind ++ rest)) 72 ≡ false = le-ltb (length (header_of kind ++ rest)) 72 (omega arith) in
      let high : ltb 1530 (length (header_of kind ++ rest)) ≡ false = le-ltb 1530 (length (header_of kind ++ rest)) (omega arith) in
      simp (low, high)

  at_seven : (x : ℕ) {d : Delimiter} → delimiter_of x ≡ d → is_delimiter d ≡ true → head_of (after_seven x ++ rest) ≡ delimited_of d 8 (after_seven x ++ rest)
  unfolding head_of leading
  at_seven x e t =
      let there : ltb 7 (length (after_seven x ++ rest)) ≡ true = lt-ltb 7 (length (after_seven x ++ rest)) (omega arith) in
      simp (not_55 x (ap is_delimiter e ∙ t), e, there)

  at_six : (x y : ℕ) {d : Delimiter} → delimiter_of x ≡ d → is_delimiter d ≡ true → head_of (after_six x y ++ rest) ≡ delimited_of d 7 (after_six x y ++ rest)
  unfolding head_of leading
  at_six x y e t =
      let there : ltb 6 (length (after_six x y ++ rest)) ≡ true = lt-ltb 6 (length (after_six x y ++ rest)) (omega arith) in
      simp (not_55 x (ap is_delimiter e ∙ t), e, there)

  -- what the writing half wrote, the reading half gives back, for each kind
  pub head_read : (kind : Kind) → Counted kind → head_of (header_of kind ++ rest) ≡ known kind 8
  head_read Express c = at_seven express_code express_read refl ∙ sized Express
  head_read (Start n) c = at_seven (start_code n) (start_read n.0 c) refl ∙ sized (Start n)
  head_read (Continuation n k) c =
      at_six (continuation_code n) (fragment_code k) (continuation_read n.0 c.0) refl
      ∙ simp (lt-ltb 7 (length (header_of (Continuation n k) ++ rest)) (omega arith), fragment_read k.0 c.1) (sized (Continuation n k))
  head_read Verify c = at_seven verify_code verify_read refl ∙ sized Verify
  head_read Respond c = at_seven respond_code respond_read refl ∙ sized Respond
