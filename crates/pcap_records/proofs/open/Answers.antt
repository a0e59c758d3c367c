-- `pcap_records::open` meets its contract.
use mathlib.Core.Path.{◌≡◌, ◌∙◌}
use Prim.Native.Nat.{◌≤◌}
use native.Mathlib.Omega.{arith}
use lib.ListN.{length}
use Rattle.rules.proofs.Tests.{tests}
use Rattle.pcap_fields.specs.Fields.{word_in}
use Rattle.pcap_fields.specs.declared.Order.TheVariants.{Little, Big}
use Rattle.pcap_records.specs.Records.{file_header, magic, open_of}
use Rattle.pcap_records.proofs.open.Goals as goal

pub returns-then-capture-lt-FILE_HEADER : goal.returns-then-capture-lt-FILE_HEADER
unfolding open_of
returns-then-capture-lt-FILE_HEADER c =
    let cut = c.if-capture-lt-FILE_HEADER.true in
    simp tests

pub returns-then-word : goal.returns-then-word
unfolding open_of
returns-then-word c =
    let s = c.args.capture.now in
    let long : file_header ≤ length s = c.if-capture-lt-FILE_HEADER.false in
    let little : word_in Little s 0 ≡ magic = omega (arith, c.word.ensures, c.if-word.true) in
    c.fields.ensures ∙ simp tests

pub returns-then-word-2 : goal.returns-then-word-2
unfolding open_of
returns-then-word-2 c =
    let s = c.args.capture.now in
    let long : file_header ≤ length s = c.if-capture-lt-FILE_HEADER.false in
    let little : word_in Little s 0 ≡ magic → ⊥ = λ e. omega (arith, c.word.ensures, c.if-word.false) in
    let big : word_in Big s 0 ≡ magic = omega (arith, c.word-2.ensures, c.if-word-2.true) in
    c.fields-then-word-2.ensures ∙ simp tests

pub returns : goal.returns
unfolding open_of
returns c =
    let s = c.args.capture.now in
    let long : file_header ≤ length s = c.if-capture-lt-FILE_HEADER.false in
    let little : word_in Little s 0 ≡ magic → ⊥ = λ e. omega (arith, c.word.ensures, c.if-word.false) in
    let big : word_in Big s 0 ≡ magic → ⊥ = λ e. omega (arith, c.word-2.ensures, c.if-word-2.false) in
    simp tests
