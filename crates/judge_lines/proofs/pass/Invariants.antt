-- `pass`: at each line start the loop stands for the scan and for the pass over the whole set.
use Rattle.judge_lines.specs.Pass.{Started}
use Rattle.judge_lines.proofs.LineLoopLaws.{Along}
use Rattle.judge_lines.proofs.pass.Given as goal

abbrev pub invariant-loop : goal.invariant-loop
invariant-loop l =
    Started l.s l.settype l.second l.lines × Along l.s l.settype l.at l.counter l.state
