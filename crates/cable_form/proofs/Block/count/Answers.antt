-- `count`: the byte is a digit.
use native.Mathlib.Omega.{arith}
use Rattle.cable_form.proofs.FormLaws.{formed}
use Rattle.cable_form.proofs.Block.count.Goals as goal

pub bounds-self-0 : goal.bounds-self-0
bounds-self-0 c = omega (arith, (formed _ c.args.self.now.good_form).least)

pub overflow_sub-self : goal.overflow_sub-self
overflow_sub-self c = (formed _ c.args.self.now.good_form).count-least
