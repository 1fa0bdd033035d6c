-- `next_count`: 1 after 9 or more, else one more.
use borrow.Author.Tests.{le-leb, lt-leb}
use Rattle.meaning_cable.specs.Sending.{next_count}
use Rattle.cable_count.proofs.next_count.Goals as goal

pub returns-then-count-ge-COUNT : goal.returns-then-count-ge-COUNT
unfolding next_count
returns-then-count-ge-COUNT c = rw (le-leb 9 _ c.if-count-ge-COUNT.true)

pub returns : goal.returns
unfolding next_count
returns c = rw (lt-leb 9 _ c.if-count-ge-COUNT.false)
