-- `entry_at` is the walk `entry_at`: each return by the law of the bytes that are there.
use native.Mathlib.Omega.{arith}
use Rattle.entry_read.proofs.HeadLaws.{entry-headless, entry-short, entry-told}
use Rattle.entry_read.proofs.entry_at.Goals as goal

pub returns-then-s-at : goal.returns-then-s-at
returns-then-s-at c = entry-headless _ _ (omega arith)

pub returns-then-s-at-lt-ENTRY_LEAD : goal.returns-then-s-at-lt-ENTRY_LEAD
returns-then-s-at-lt-ENTRY_LEAD c = entry-headless _ _ (omega arith)

pub returns-then-s-at-2 : goal.returns-then-s-at-2
returns-then-s-at-2 c = entry-short _ _ (omega arith) _ c.two_bytes-length.ensures (omega arith)

pub returns : goal.returns
returns c = entry-told _ _ (omega arith) _ c.two_bytes-length.ensures (omega arith) _ c.two_bytes-label.ensures
