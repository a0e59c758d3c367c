-- `endings::judge` meets its contract.
use mathlib.Core.Path.{◌≡◌, sym, ap, ◌∙◌}
use mathlib.Core.List.{List}
use Prim.Native.Nat.{ℕ, ◌-◌}
use native.Mathlib.Omega.{arith}
use native.Mathlib.Nat.{sub-zero}
use lib.ListN.{length, take}
use Rattle.fours.specs.Word.{octets_of}
use Rattle.fours.proofs.Words.{octets_inj}
use Rattle.crc.specs.Crc.{register_over}
use Rattle.endings.specs.Judge.{last_four, decided, ending_of}
use Rattle.endings.specs.declared.Ending.{Ending}
use Rattle.endings.proofs.Endings.{done_if, more_if, damaged_if, short_damaged}
use Rattle.endings.proofs.Ends.{last_word}
use Rattle.endings.proofs.judge.Goals as goal

-- the register that was summed over the part lent is the one over the data
judged : (r after : ℕ) (s : List ℕ) (e : Ending) → after ≡ register_over r (take (length s - 4 - 0) s) → decided after (length s - 4) (last_four s) ≡ e → e ≡ ending_of r s
judged r after s e summed d =
    sym d ∙ ap (λ (x : ℕ). decided x (length s - 4) (last_four s)) (summed ∙ ap (λ (k : ℕ). register_over r (take k s)) (sub-zero (length s - 4)))

pub returns-then-n-lt4 : goal.returns-then-n-lt4
returns-then-n-lt4 c = sym (short_damaged c.args.register c.args.octets.now c.if-n-lt4.true)

pub returns-then-last-fcs_word : goal.returns-then-last-fcs_word
returns-then-last-fcs_word c =
    let s = c.args.octets.now in
    let known = c.type_inv.octets in
    let last = last_word s (λ k. omega (arith, known k)) (omega arith) c.load-last.result c.load-last.ensures in
    judged _ c.over-after.result s _ c.over-after.ensures
    (done_if _ _ _ (sym last ∙ ap octets_of c.if-last-fcs_word.true ∙ c.fcs_word.ensures))

pub returns-then-last-mcrc_word : goal.returns-then-last-mcrc_word
returns-then-last-mcrc_word c =
    let s = c.args.octets.now in
    let known = c.type_inv.octets in
    let last = last_word s (λ k. omega (arith, known k)) (omega arith) c.load-last.result c.load-last.ensures in
    judged _ c.over-after.result s _ c.over-after.ensures
    (more_if _ _ _ (sym last ∙ ap octets_of c.if-last-mcrc_word.true ∙ c.mcrc_word.ensures))

pub returns : goal.returns
returns c =
    let s = c.args.octets.now in
    let known = c.type_inv.octets in
    let last = last_word s (λ k. omega (arith, known k)) (omega arith) c.load-last.result c.load-last.ensures in
    judged _ c.over-after.result s _ c.over-after.ensures
    (damaged_if _ _ _
    (λ e. c.if-last-fcs_word.false (octets_inj c.load-last.result _ (omega arith) (omega arith) (last ∙ e ∙ sym c.fcs_word.ensures)))
    (λ e. c.if-last-mcrc_word.false (octets_inj c.load-last.result _ (omega arith) (omega arith) (last ∙ e ∙ sym c.mcrc_word.ensures))))
