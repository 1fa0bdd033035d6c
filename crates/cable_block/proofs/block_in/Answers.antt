-- `block_in`: as the set is judged.
use mathlib.Core.Path.{sym, ◌∙◌}
use Rattle.meaning.proofs.ResultLaws.{handed-on}
use Rattle.cable_set.proofs.AloneSetLaws.{alone-so}
use Rattle.cable_block.proofs.BlockAnswers.{answer-refused}
use Rattle.cable_block.proofs.block_in.Goals as goal

pub block_accepted-requires : goal.block_accepted-requires
block_accepted-requires c =
    (sym c.in_ok-shape.was ∙ (c.alone_of.ensures ∙ alone-so _ _ c.judge.ensures), c.requires)

pub returns-in_err-shape : goal.returns-in_err-shape
returns-in_err-shape c =
    let a = c.args in
    let r = answer-refused a.set.now a.out.now a.i a.count _ (sym c.in_err-shape.was ∙ (c.alone_of.ensures ∙ alone-so _ _ c.judge.ensures)) in
    (handed-on _ c.from_residual.ensures.1 ∙ r.0, r.1)
