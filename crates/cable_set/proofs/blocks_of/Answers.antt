-- `blocks_of`: as the set is judged, else by its length and lines.
use mathlib.Core.Path.{sym, ap, ◌∙◌}
use Rattle.meaning.proofs.ResultLaws.{handed-on}
use borrow.Author.Tests.{eqb-true}
use Rattle.cable_set.specs.BlockCounts.{count_for}
use Rattle.cable_set.proofs.AloneSetLaws.{alone-so, blocks-counted, blocks-empty, blocks-refused}
use Rattle.cable_set.proofs.blocks_of.Goals as goal
use Rattle.std.specs.Prelude.{Err, Ok}

pub returns-then-is_empty : goal.returns-then-is_empty
returns-then-is_empty c = ap Err c.at.ensures ∙ sym (blocks-empty _ (eqb-true _ 0 (sym c.if-is_empty.ensures)))

pub returns-in_err-shape : goal.returns-in_err-shape
returns-in_err-shape c =
    handed-on _ c.from_residual.ensures.1 ∙ (sym (blocks-refused _ _ (sym c.in_err-shape.was ∙ (c.alone_of.ensures ∙ alone-so _ _ c.judge.ensures))))

pub returns : goal.returns
returns c =
    ap Ok (c.count_for.ensures ∙ ap count_for c.data_length.ensures)
    ∙ sym (blocks-counted _ _ (sym c.in_ok-shape.was ∙ (c.alone_of.ensures ∙ alone-so _ _ c.judge.ensures)))
