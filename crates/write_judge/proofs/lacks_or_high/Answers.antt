-- `lacks_or_high`: what is lacking, then what is found in the contents of the list.
use mathlib.Core.Path.{refl, ap, ◌∙◌}
use Rattle.meaning.specs.Answers.{no_refusal}
use Rattle.judge_missing.proofs.FinishLaws.{lacks-first, high-next, nothing-found}
use Rattle.write_seven.specs.ListSeven.{if_any}
use Rattle.write_judge.proofs.EntryPass.{one-refused}
use Rattle.write_judge.proofs.lacks_or_high.Goals as goal

pub returns-in-Some : goal.returns-in-Some
returns-in-Some c =
    let e = c.in-Some.ensures in
    one-refused _ e.numbered ∙ ap if_any (lacks-first _ _ _ _ _ e.lack_so e.numbered)

pub returns-then-has_9206 : goal.returns-then-has_9206
returns-then-has_9206 c =
    c.high_in_list.ensures ∙ ap if_any (high-next _ _ _ no_refusal _ c.in_default.ensures.lack_so refl _ c.has_9206.ensures c.if-has_9206.true)

pub returns : goal.returns
returns c =
    ap if_any (nothing-found _ _ _ no_refusal _ c.in_default.ensures.lack_so refl _ c.has_9206.ensures c.if-has_9206.false)
