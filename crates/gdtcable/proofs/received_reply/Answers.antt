-- `received_reply`: the numbers of each answer.
use mathlib.Core.Path.{sym, ap, ◌∙◌}
use Rattle.gdtcable.specs.CableReplies.{received_reply}
use Rattle.gdtcable.proofs.CableReplyLaws.{told}
use Rattle.gdtcable.proofs.received_reply.Goals as goal

pub returns-in-Ok : goal.returns-in-Ok
returns-in-Ok c =
    told c.args.receiver c.in-Ok.taken _ c.outcome_number.ensures ∙ ap (received_reply c.args.receiver) (sym c.in-Ok.is)

pub returns-in-Err : goal.returns-in-Err
returns-in-Err c =
    ap (received_reply c.args.receiver) (sym c.in-Err.is)
