-- `one-more` counts up to the most lines of a set: its test is that of `counted`.
use mathlib.Core.Path.{sym}
use Rattle.index_walk.proofs.EntryWalk.{counted-on, counted-out}
use Rattle.index_walk.proofs.one_more.Goals as goal

pub returns-then-n-ge-LINES : goal.returns-then-n-ge-LINES
returns-then-n-ge-LINES c = sym (counted-out _ c.if-n-ge-LINES.true)

pub returns : goal.returns
returns c = sym (counted-on _ c.if-n-ge-LINES.false)
