-- `build`: as the sets are counted.
use mathlib.Core.Path.{sym, ◌∙◌}
use Rattle.meaning.proofs.ResultLaws.{handed-on}
use Rattle.day_index.proofs.DayAnswerLaws.{build-refused}
use Rattle.day_index.proofs.build.Goals as goal

pub build_counted-requires : goal.build_counted-requires
build_counted-requires c =
    sym c.count_sets.ensures ∙ c.in_ok-count.was

pub returns-in_err-count : goal.returns-in_err-count
returns-in_err-count c =
    let a = c.args in
    let r = build-refused a.file.now a.index.now _ (sym c.in_err-count.was ∙ c.count_sets.ensures) in
    (handed-on _ c.from_residual.ensures.1 ∙ r.0, r.1)
