-- `append`: as the set after the old length is judged.
use mathlib.Core.Path.{sym, ap, ◌∙◌}
use Rattle.meaning.proofs.ResultLaws.{handed-on}
use Rattle.day_index.proofs.DayAnswerLaws.{append-over, append-empty, append-own}
use Rattle.day_index.proofs.append.Goals as goal
use Rattle.std.specs.Prelude.{Err}

pub returns-then-file-old : goal.returns-then-file-old
returns-then-file-old c =
    let a = c.args in
    let r = append-over a.file.now a.old a.index.now a.count c.if-file-old.true in
    (ap Err c.at.ensures ∙ r.0, r.1)

pub returns-then-file-old-2 : goal.returns-then-file-old-2
returns-then-file-old-2 c =
    let a = c.args in
    let r = append-empty a.file.now a.old a.index.now a.count c.if-file-old-2.true in
    (ap Err c.at-then-file-old-2.ensures ∙ r.0, r.1)

pub append_accepted-requires : goal.append_accepted-requires
append_accepted-requires c =
    (c.if-file-old.false, sym c.judge_at.ensures ∙ c.in_ok-shape.was)

pub returns-in_err-shape : goal.returns-in_err-shape
returns-in_err-shape c =
    let a = c.args in
    let r = append-own a.file.now a.old a.index.now a.count c.if-file-old.false _ (sym c.judge_at.ensures ∙ c.in_err-shape.was) in
    (handed-on _ c.from_residual.ensures.1 ∙ r.0, r.1)
