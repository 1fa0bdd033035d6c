-- `gdt_send` leaves the record and answers the reply that `send_turn` gives by value.
use mathlib.Core.Path.{ap}
use Rattle.gdtcable.specs.declared.SentTurn.{SentTurn}
use Rattle.gdtcable.proofs.gdt_send.Goals as goal

pub returns : goal.returns
returns c =
    let e = c.send_turn-next.ensures in
    (ap (λ (y : SentTurn). y.reply) e, ap (λ (y : SentTurn). y.link) e)
