-- `gdt_receive_2`: the numbers of what `receive` answers, and the bytes that it leaves.
use mathlib.Core.Path.{ap, ◌∙◌}
use Rattle.gdtcable.specs.CableReplies.{received_reply}
use Rattle.gdtcable.proofs.gdt_receive_2.Goals as goal

pub returns : goal.returns
returns c =
    (c.received_reply.ensures ∙ ap (received_reply c.args.receiver) c.receive-received.ensures.0, c.receive-received.ensures.1)
