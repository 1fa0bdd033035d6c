-- `judge_list`: what the check refuses; else what the rules refuse; else the count.
use mathlib.Core.Path.{sym, ◌∙◌}
use Rattle.meaning.proofs.ResultLaws.{handed-on}
use Rattle.write_judge.proofs.CheckLaws.{some-checked}
use Rattle.write_judge.proofs.JudgedListLaws.{list-unchecked, list-refused, list-good}
use Rattle.write_judge.proofs.judge_list.Goals as goal

pub judge_entries-requires : goal.judge_entries-requires
judge_entries-requires c =
    some-checked c.args.list.now (sym c.check_list.ensures ∙ c.in_ok-entries.was)

pub returns-in-Some : goal.returns-in-Some
returns-in-Some c = list-refused c.args.list.now (sym c.check_list.ensures ∙ c.in_ok-entries.was) (sym c.judge_entries.ensures ∙ c.in-Some.is)

pub returns-in-None : goal.returns-in-None
returns-in-None c = list-good c.args.list.now (sym c.check_list.ensures ∙ c.in_ok-entries.was) (sym c.judge_entries.ensures ∙ c.in-None.is)

pub returns-in_err-entries : goal.returns-in_err-entries
returns-in_err-entries c =
    handed-on _ c.from_residual.ensures.1 ∙ (list-unchecked c.args.list.now (sym c.check_list.ensures ∙ c.in_err-entries.was))
