-- `turn_of`: nothing under way, ACK 1, an error.
use mathlib.Core.Path.{sym, ap, ◌∙◌}
use borrow.Author.Tests.{eq-eqb, ne_eqb}
use Rattle.meaning_cable.specs.Sending.{turn_of}
use Rattle.meaning_cable.specs.declared.Action.{Action}
use Rattle.cable_send.proofs.turn_of.Goals as goal

pub returns-then-link-ne-UNDER_WAY : goal.returns-then-link-ne-UNDER_WAY
unfolding turn_of
returns-then-link-ne-UNDER_WAY c =
    rw (ne_eqb _ 1 c.if-link-ne-UNDER_WAY.true) (ap (λ (x : Action). record { link = c.args.link; action = x }) c.end_of.ensures)

pub returns-then-is_ack : goal.returns-then-is_ack
unfolding turn_of
returns-then-is_ack c =
    rw (eq-eqb _ 1 c.if-link-ne-UNDER_WAY.false, sym c.is_ack.ensures ∙ c.if-is_ack.true) c.acked.ensures

pub returns : goal.returns
unfolding turn_of
returns c =
    rw (eq-eqb _ 1 c.if-link-ne-UNDER_WAY.false, sym c.is_ack.ensures ∙ c.if-is_ack.false) c.failed.ensures
