-- `line_step`: the content of the line, and its step.
use Rattle.judge_lines.proofs.PassLaws.{step_line}
use Rattle.judge_lines.proofs.line_step.Goals as goal

pub returns : goal.returns
returns c =
    step_line _ c.args.at c.args.size c.requires.0 c.step_at.ensures.step
