-- `label`: the byte is one of three digits.
use native.Mathlib.Omega.{arith}
use Rattle.cable_form.proofs.FormLaws.{formed}
use Rattle.cable_form.proofs.Block.label.Goals as goal

pub bounds-self-3 : goal.bounds-self-3
bounds-self-3 c = omega (arith, (formed _ c.args.self.now.good_form).least)

pub returns-in_default : goal.returns-in_default
returns-in_default c =
    let f = formed _ c.args.self.now.good_form in
    omega (arith, f.label-least, f.label-most)
