-- `acked`: after the last block, and after another one, whose number is below that of the blocks.
use mathlib.Core.Path.{sym, ◌∙◌}
use Prim.Native.Nat.{◌+◌}
use native.Mathlib.Omega.{arith}
use borrow.Author.Tests.{leb-false}
use Rattle.meaning_cable.specs.Sending.{acked}
use Rattle.cable_send.proofs.acked.Goals as goal

pub returns-then-is_last : goal.returns-then-is_last
unfolding acked
returns-then-is_last c = rw (sym c.is_last.ensures ∙ c.if-is_last.true) c.stops.ensures

pub overflow_add-link : goal.overflow_add-link
overflow_add-link c =
    let s = c.args.link in
    omega (arith, leb-false s.blocks (s.block + 1) (sym c.is_last.ensures ∙ c.if-is_last.false))

pub returns : goal.returns
unfolding acked
returns c =
    rw (sym c.is_last.ensures ∙ c.if-is_last.false, ← c.next_count-count.ensures) c.goes.ensures
