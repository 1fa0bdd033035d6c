-- `failed`: the first error on a block, the second in the first attempt, the second in the second.
use native.Mathlib.Omega.{arith}
use borrow.Author.Tests.{le-leb, lt-leb, eq-eqb, ne_eqb}
use Rattle.meaning_cable.specs.Sending.{failed}
use Rattle.cable_send.proofs.failed.Goals as goal

pub returns-then-link-eq0 : goal.returns-then-link-eq0
unfolding failed
returns-then-link-eq0 c = rw (eq-eqb _ 0 c.if-link-eq0.true) c.once_more.ensures

pub returns-then-link-le-FIRST_ATTEMPT : goal.returns-then-link-le-FIRST_ATTEMPT
unfolding failed
returns-then-link-le-FIRST_ATTEMPT c =
    let s = c.args.link in
    rw (ne_eqb _ 0 c.if-link-eq0.false, le-leb s.attempt 1 (omega (arith, c.if-link-le-FIRST_ATTEMPT.true))) c.second_attempt.ensures

pub returns : goal.returns
unfolding failed
returns c =
    let s = c.args.link in
    rw (ne_eqb _ 0 c.if-link-eq0.false, lt-leb s.attempt 1 (omega (arith, c.if-link-le-FIRST_ATTEMPT.false))) c.stops.ensures
