-- `opened`: what the group before it lacks, then the flags.
use mathlib.Core.Path.{ap, ◌∙◌}
use native.Mathlib.Omega.{arith}
use Rattle.judge_missing.specs.declared.State.{State}
use Rattle.judge_missing.specs.Lacks.{told}
use Rattle.judge_line.proofs.StepLaws.{opened-is}
use Rattle.judge_line.proofs.opened.Goals as goal
use Rattle.judge_line.proofs.opened.Goals.{in-Some, in-None}

pub returns-clause-next : goal.returns-clause-next
returns-clause-next c =
    elim c.match-first_lack.branch [
      | in-Some w ↦ (rw (c.clear.ensures, c.mark.ensures, w.state-is) (opened-is (omega arith)), ap (λ (y : State). told y.lack) w.state-is ∙ w.in-Some.ensures.lack_so)
      | in-None w ↦ (rw (c.clear.ensures, c.mark.ensures, w.state-is) (opened-is (omega arith)), ap (λ (y : State). told y.lack) w.state-is ∙ w.in-None.ensures.lack_so)
    ]
