-- `is_ack`: just the two bytes.
use native.Mathlib.Omega.{arith}
use Rattle.std.proofs.lemmas.Bool.Decides.{nat_tests}
use Rattle.cable_send.proofs.AckLaws.{ack-bytes}
use Rattle.cable_send.proofs.is_ack.Goals as goal

pub returns : goal.returns
returns c = rw (c.eq.ensures, c.as_slice.ensures, ack-bytes c.args.reply.now) (grind (arith, nat_tests))
