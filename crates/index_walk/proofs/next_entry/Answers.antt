-- `next_entry`: by whether seven bytes stand at the walk; then the sums fit, and length and label are those of the line there.
use mathlib.Core.Path.{sym, ◌∙◌}
use borrow.Author.Tests.{leb-true, leb-false}
use Rattle.index_walk.proofs.EntryWalk.{next-none, next-told}
use Rattle.index_walk.proofs.next_entry.Goals as goal

pub returns-then-not-has_lead : goal.returns-then-not-has_lead
returns-then-not-has_lead c = c.no_entry.ensures ∙ next-none _ _ (leb-false _ _ (sym c.has_lead.ensures ∙ c.if-not-has_lead.true))

pub returns : goal.returns
returns c =
    next-told _ _ (leb-true _ _ (sym c.has_lead.ensures ∙ c.if-not-has_lead.false)) _ c.told_length-length.ensures.0 _ c.told_label-label.ensures
    _ c.one_more-lines.ensures _ c.last_after-last.ensures _ c.header_of-header.ensures
