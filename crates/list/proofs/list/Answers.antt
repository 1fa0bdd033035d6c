-- `list`: as the set is judged.
use mathlib.Core.Path.{sym, ◌∙◌}
use Rattle.meaning.proofs.ResultLaws.{handed-on}
use Rattle.list.proofs.ListLaws.{answer-refused}
use Rattle.list.proofs.list.Goals as goal

pub list_accepted-requires : goal.list_accepted-requires
list_accepted-requires c =
    sym c.judge.ensures ∙ c.in_ok-shape.was

pub returns-in_err-shape : goal.returns-in_err-shape
returns-in_err-shape c =
    let r = answer-refused _ _ _ (sym c.judge.ensures ∙ c.in_err-shape.was) in
    (handed-on _ c.from_residual.ensures.1 ∙ r.0, r.1)
