-- One turn of each loop: an entry, or the octets of one, laid over what was there before, and what is then left to do.
-- Assumes nothing.
use mathlib.Core.Path.{◌≡◌, refl, sym, ap, ◌∙◌}
use mathlib.Core.List.{List, [], ◌∷◌, ◌++◌, append_assoc}
use Prim.Native.Nat.{ℕ, ◌+◌, ◌-◌, ◌*◌, ◌≤◌, ◌<◌}
use native.Mathlib.Omega.{arith}
use native.Mathlib.Numerals.{add-one}
use borrow.Rule.Slice.PartMut.{put_mid}
use lib.ListN.{length, get_or, set, take, drop, length-drop, drop_of_length-le}
use lib.Seq.{drop-cons, drop-drop}
use Rattle.octets.specs.Laid.{laid}
use Rattle.octets.proofs.Laid.{laid_none, laid_laid, set_one}
use Rattle.gate_entries.specs.Entries.{size, Entry, entry_at, entry_octets}
use Rattle.gate_lists.specs.Lists.{entries_from, octets_of_all}
use Rattle.gate_lists.proofs.Contents.{length_from, length_all, next}

-- an entry stored
pub entry_put : (n : ℕ) (s : List ℕ) (xs : List Entry) (i : ℕ) → i < n → n ≤ length xs
    → laid (set xs i (entry_at s (i * size))) (i + 1) (entries_from (n - (i + 1)) s (i + 1)) ≡ laid xs i (entries_from (n - i) s i)
entry_put n s xs i h room =
    let r = length_from (n - (i + 1)) s (i + 1) in
    ap (λ (l : List Entry). laid l (i + 1) (entries_from (n - (i + 1)) s (i + 1))) (set_one xs i (entry_at s (i * size)) (omega arith))
    ∙ laid_laid xs (entry_at s (i * size) ∷ []) (entries_from (n - (i + 1)) s (i + 1)) i (i + 1) refl (omega arith)
    ∙ ap (laid xs i) (sym (next n s i h))

pub entries_put : (n : ℕ) (s : List ℕ) (xs : List Entry) (i : ℕ) → n ≤ i → laid xs i (entries_from (n - i) s i) ≡ xs
unfolding entries_from
entries_put n s xs i h =
    ap (λ (x : ℕ). laid xs i (entries_from x s i)) (let z : n - i ≡ 0 = omega arith in z) ∙ laid_none xs i

-- the octets of an entry laid
pub octets_put : (es : List Entry) (xs : List ℕ) (i : ℕ) → i < length es → length es * size ≤ length xs
    → laid (laid xs (i * size) (entry_octets (get_or es i []))) ((i + 1) * size) (octets_of_all (drop (i + 1) es)) ≡ laid xs (i * size) (octets_of_all (drop i es))
unfolding octets_of_all entry_octets
octets_put es xs i h room =
    let l = length-drop (i + 1) es in
    let r = length_all (drop (i + 1) es) in
    laid_laid xs (entry_octets (get_or es i [])) (octets_of_all (drop (i + 1) es)) (i * size) ((i + 1) * size) (omega arith) (omega arith)
    ∙ ap (λ (p : List ℕ). laid xs (i * size) p)
    (sym (ap octets_of_all (drop-cons es i [] h ∙ ap (λ (k : ℕ). get_or es i [] ∷ drop k es) (sym (add-one i)))))

pub all_put : (es : List Entry) (xs : List ℕ) (i : ℕ) → length es ≤ i → laid xs (i * size) (octets_of_all (drop i es)) ≡ xs
unfolding octets_of_all
all_put es xs i h = ap (λ (l : List Entry). laid xs (i * size) (octets_of_all l)) (drop_of_length-le es h) ∙ laid_none xs (i * size)

-- the octets of an entry copied over a part that is as long
pub copied : (p xs : List ℕ) (at k : ℕ) → k ≡ length p → put_mid at k xs p ≡ laid xs at p
unfolding laid
copied p xs at k e =
    sym (append_assoc (take at xs) p (drop k (drop at xs)))
    ∙ ap (λ (l : List ℕ). take at xs ++ p ++ l) (drop-drop k at xs ∙ ap (λ (n : ℕ). drop (at + n) xs) e)
