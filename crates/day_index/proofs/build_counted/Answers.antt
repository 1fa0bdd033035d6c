-- `build_counted`: each return by the law of the answer.
use mathlib.Core.Path.{ap, ◌∙◌}
use Rattle.day_index.proofs.DayAnswerLaws.{build-full, build-made}
use Rattle.day_index.proofs.build_counted.Goals as goal
use Rattle.std.specs.Prelude.{Err}

pub returns-then-index-count : goal.returns-then-index-count
returns-then-index-count c =
    let a = c.args in
    let r = build-full a.file.now a.index.now a.count c.requires c.if-index-count.true in
    (ap Err c.at.ensures ∙ r.0, r.1)

pub returns : goal.returns
returns c =
    let a = c.args in
    build-made a.file.now a.index.now a.count c.requires c.if-index-count.false _ c.put_sets.ensures
