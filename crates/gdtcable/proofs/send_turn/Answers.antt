-- `send_turn`: what is made of the answer of `send`.
use mathlib.Core.Path.{◌∙◌}
use Rattle.gdtcable.proofs.CableReplyLaws.{turn_is}
use Rattle.gdtcable.proofs.send_turn.Goals as goal

pub returns-in-Ok : goal.returns-in-Ok
returns-in-Ok c =
    let a = c.args in
    c.next_turn.ensures ∙ turn_is a.link a.begin _ _ _ c.send.ensures c.in-Ok.is

pub returns-in-Err : goal.returns-in-Err
returns-in-Err c =
    let a = c.args in
    c.refused_turn.ensures ∙ turn_is a.link a.begin _ _ _ c.send.ensures c.in-Err.is
