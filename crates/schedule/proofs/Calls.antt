-- Both round trips as a caller makes them: what one call left is handed to the other.
-- Assumes nothing.
use mathlib.Core.Path.{◌≡◌, sym, ap, ◌∙◌, subst}
use mathlib.Core.List.{List}
use Prim.Native.Nat.{ℕ, ◌≤◌}
use lib.ListN.{length, take, drop}
use lib.Seq.{take_at}
use Rattle.octets.specs.Laid.{over}
use Rattle.gate_entries.specs.Entries.{Entry}
use Rattle.gate_lists.specs.Lists.{Said, good, of_octets, of_entries, octets_of_all}
use Rattle.gates.specs.Gates.{Met, entries_of, read_of, write_of}
use Rattle.gates.proofs.Laws.{wrote, room}
use Rattle.schedule.specs.Typed.{Octets, Entries}
use Rattle.schedule.proofs.Roundtrip.{read_good, read_written, written_good, written_read}

-- what a call wrote, and nothing else
front : {A : Type 0} (xs out : List A) (n : ℕ) {out' : List A} → n ≡ length xs → out' ≡ over xs out → take n out' ≡ xs
front xs out n l e = ap (take n) e ∙ take_at xs (drop (length xs) out) n (sym l)

-- a list that was read, its entries written into memory with room for it: the same octets
pub read_then_write : (s : List ℕ) → Octets s → (entries entries' : List Entry) (n : ℕ) → Met (read_of s (length entries)) entries (good n) entries'
    → (list list' : List ℕ) (a : Said) → Met (write_of (take n entries') (length list)) list a list' → length s ≤ length list
    → (a ≡ good (length s)) × (list' ≡ over s list)
read_then_write s o entries entries' n r list list' a w h =
    let read = wrote (entries_of s) entries n entries' (of_octets s) r in
    let g = read.judged in
    let es : take n entries' ≡ entries_of s = front (entries_of s) entries n read.count read.output in
    let octets = read_written s o read.entries g in
    let m = subst (λ (x : List Entry). Met (write_of x (length list)) list a list') es w in
    room (octets_of_all (entries_of s)) s list read.entries (of_entries (entries_of s)) a list' (read_good s o read.entries g) octets h m

-- entries that were written, their octets read into memory with room for them: the same entries
pub write_then_read : (es : List Entry) → Entries es → (list list' : List ℕ) (n : ℕ) → Met (write_of es (length list)) list (good n) list'
    → (entries entries' : List Entry) (a : Said) → Met (read_of (take n list') (length entries)) entries a entries' → length es ≤ length entries
    → (a ≡ good (length es)) × (entries' ≡ over es entries)
write_then_read es t list list' n w entries entries' a r h =
    let written = wrote (octets_of_all es) list n list' (of_entries es) w in
    let g = written.judged in
    let s : take n list' ≡ octets_of_all es = front (octets_of_all es) list n written.count written.output in
    let m = subst (λ (x : List ℕ). Met (read_of x (length entries)) entries a entries') s r in
    room (entries_of (octets_of_all es)) es entries written.entries (of_octets (octets_of_all es)) a entries' (written_good es written.entries g)
    (written_read es t written.entries g) h m
