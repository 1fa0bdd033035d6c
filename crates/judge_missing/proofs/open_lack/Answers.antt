-- `open_lack` asks the group of the open header; without one nothing is lacking.
use mathlib.Core.Path.{◌∙◌}
use Rattle.judge_missing.proofs.HeaderLackLaws.{open-lack}
use Rattle.judge_missing.proofs.open_lack.Goals as goal

pub returns-in-Some-clause-lack_so : goal.returns-in-Some-clause-lack_so
returns-in-Some-clause-lack_so c = c.refusal.ensures ∙ (c.in-Some.ensures ∙ open-lack _ _ _ _)

pub returns-in-None-clause-lack_so : goal.returns-in-None-clause-lack_so
returns-in-None-clause-lack_so c = c.in-None.ensures ∙ open-lack _ _ _ _
