-- `stream_words::octet` meets its contract.
use mathlib.Core.Path.{refl}
use native.Mathlib.Omega.{arith}
use lib.ListN.{length}
use Rattle.stream_words.proofs.Octets.{short, below, full, refused, kept, remembered}
use Rattle.stream_words.proofs.octet.Goals as goal

pub returns-then-area : goal.returns-then-area
returns-then-area c =
    let a = c.args in
    refused a.stream.now a.area.now a.octet refl (short a.stream.now (length a.area.now) c.if-area.true) (omega arith)

pub returns-then-count-lt-MOST : goal.returns-then-count-lt-MOST
returns-then-count-lt-MOST c =
    let a = c.args in
    let h = c.if-area.false in
    kept a.stream.now a.area.now a.octet (below a.stream.now (length a.area.now) h c.if-count-lt-MOST.true (omega arith)) h c.if-count-lt-MOST.true

pub returns : goal.returns
returns c =
    let a = c.args in
    remembered a.stream.now a.area.now a.octet
    (full a.stream.now (length a.area.now) c.if-area.false (omega arith) c.if-count-lt-MOST.false (omega arith)) c.if-count-lt-MOST.false
