-- `first_count`: after any set but a delivered one, and after that.
use native.Mathlib.Omega.{arith}
use borrow.Author.Tests.{eq-eqb, ne_eqb}
use Rattle.meaning_cable.specs.Sending.{first_count}
use Rattle.cable_send.proofs.first_count.Goals as goal

pub returns-then-link-ne-DELIVERED : goal.returns-then-link-ne-DELIVERED
unfolding first_count
returns-then-link-ne-DELIVERED c =
    let s = c.args.link in
    rw (ne_eqb s.phase 2 (omega (arith, c.if-link-ne-DELIVERED.true)))

pub returns : goal.returns
unfolding first_count
returns c =
    let s = c.args.link in
    rw (eq-eqb s.phase 2 (omega (arith, c.if-link-ne-DELIVERED.false))) c.next_count.ensures
