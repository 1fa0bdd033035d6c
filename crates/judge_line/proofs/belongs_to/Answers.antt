-- `belongs_to` asks for the header that the row names; of an odd label, for the name right before it.
use Prim.Native.Nat.{◌+◌}
use native.Mathlib.Omega.{arith}
use borrow.Author.Tests.{ne_eqb}
use Rattle.meaning.specs.Groups.{belongs}
use Rattle.judge_line.proofs.StepLaws.{after-name}
use Rattle.judge_line.proofs.belongs_to.Goals as goal

pub returns-then-under-ne-LABEL_6330 : goal.returns-then-under-ne-LABEL_6330
unfolding belongs
returns-then-under-ne-LABEL_6330 c = λ r e. rw (e, ne_eqb _ _ c.if-under-ne-LABEL_6330.true)

pub returns-then-label-lt1 : goal.returns-then-label-lt1
unfolding belongs
returns-then-label-lt1 c = λ r e. let a = c.args in rw (e, c.if-under-ne-LABEL_6330.false, ne_eqb (a.header + 1) a.label (λ q. omega arith))

pub returns : goal.returns
unfolding belongs
returns c = λ r e. let a = c.args in rw (e, c.if-under-ne-LABEL_6330.false, after-name a.header a.label (omega arith))
