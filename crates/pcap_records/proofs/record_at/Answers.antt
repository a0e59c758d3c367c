-- `pcap_records::record_at` meets its contract.
use mathlib.Core.Path.{sym}
use native.Mathlib.Omega.{arith}
use Rattle.pcap_records.proofs.Laws.{read_end, header_cut, stored_over, original_other, content_cut, read_whole}
use Rattle.pcap_records.proofs.record_at.Goals as goal

pub returns-then-end-at : goal.returns-then-end-at
returns-then-end-at c = sym (read_end _ _ _ (omega arith))

pub returns-then-end-at-lt-HEADER : goal.returns-then-end-at-lt-HEADER
returns-then-end-at-lt-HEADER c = sym (header_cut _ _ _ (omega arith) (omega arith))

pub returns-then-stored-gt-LIMIT : goal.returns-then-stored-gt-LIMIT
returns-then-stored-gt-LIMIT c = sym (stored_over _ _ _ (omega arith) (omega arith))

pub returns-then-stored-original : goal.returns-then-stored-original
returns-then-stored-original c = sym (original_other _ _ _ (omega arith) (omega arith) (λ e. omega arith))

pub returns-then-end-start : goal.returns-then-end-start
returns-then-end-start c = sym (content_cut _ _ _ (omega arith) (omega arith) (omega arith) (omega arith))

pub returns : goal.returns
returns c = sym (read_whole _ _ _ _ (omega arith) (omega arith) (omega arith) (omega arith) (omega arith))
