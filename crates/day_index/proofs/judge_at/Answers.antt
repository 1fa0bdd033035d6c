-- `judge_at`: as the set is judged by itself; the place of its refusal lies within the file.
use mathlib.Core.Path.{sym, ◌∙◌}
use native.Mathlib.Omega.{arith}
use lib.ListN.{length-drop}
use Rattle.day_index.proofs.CountLaws.{judged-accepted, judged-refused}
use Rattle.day_index.proofs.judge_at.Goals as goal

pub overflow_add-result : goal.overflow_add-result
overflow_add-result c =
    let a = c.args in
    let q = judged-refused a.file.now a.at _ (sym c.in-Err.is ∙ c.judge.ensures) in
    omega (arith, q.1, length-drop a.at a.file.now, c.requires, c.ranges, c.well_formed)

pub returns-in-Ok : goal.returns-in-Ok
returns-in-Ok c =
    let a = c.args in
    judged-accepted a.file.now a.at _ (sym c.in-Ok.is ∙ c.judge.ensures)

pub returns-in-Err : goal.returns-in-Err
returns-in-Err c =
    let a = c.args in
    (judged-refused a.file.now a.at _ (sym c.in-Err.is ∙ c.judge.ensures)).0
