-- `send`: the set is refused, it begins, or a reply comes.
use mathlib.Core.Path.{◌∙◌}
use Rattle.meaning.proofs.ResultLaws.{handed-on}
use Rattle.cable_send.proofs.SentLaws.{sent-refused, sent-begun, sent-reply}
use Rattle.cable_send.proofs.send.Goals as goal

pub returns-in_err-blocks : goal.returns-in_err-blocks
returns-in_err-blocks c =
    handed-on _ c.from_residual.ensures.1 ∙ (sent-refused _ _ _ c.if-begin.true _ c.blocks_of.ensures _ c.in_err-blocks.was)

pub returns-then-begin : goal.returns-then-begin
returns-then-begin c =
    sent-begun _ _ _ c.if-begin.true _ c.blocks_of.ensures _ c.in_ok-blocks.was _ c.begun.ensures

pub returns : goal.returns
returns c = sent-reply _ _ _ c.if-begin.false _ c.turn_of.ensures
