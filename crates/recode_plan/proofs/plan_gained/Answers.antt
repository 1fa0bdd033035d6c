-- `plan_gained` tests 27, then 22, as `gained_by` does.
use Rattle.std.proofs.Common.{arith}
use borrow.Author.Tests.{le-leb, lt-leb}
use Rattle.recode_plan.proofs.plan_gained.Goals as goal

pub returns-then-without-length : goal.returns-then-without-length
returns-then-without-length c = grind (arith, le-leb, lt-leb)

pub returns-then-room-total : goal.returns-then-room-total
returns-then-room-total c = grind (arith, le-leb, lt-leb)

pub returns : goal.returns
returns c = grind (arith, le-leb, lt-leb)
