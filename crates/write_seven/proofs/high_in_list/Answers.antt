-- `high_in_list`: by whether the list says seven bits.
use mathlib.Core.Path.{sym, ap, ◌∙◌}
use Rattle.write_seven.specs.ListSeven.{if_any}
use Rattle.write_seven.proofs.ListSevenLaws.{list-seven, list-not-seven}
use Rattle.write_seven.proofs.high_in_list.Goals as goal

pub returns-then-list_says_seven : goal.returns-then-list_says_seven
returns-then-list_says_seven c =
    c.high_in_contents.ensures ∙ ap if_any (list-seven _ (sym c.list_says_seven.ensures ∙ c.if-list_says_seven.true))

pub returns : goal.returns
returns c =
    ap if_any (list-not-seven _ (sym c.list_says_seven.ensures ∙ c.if-list_says_seven.false))
