-- `end_of`: delivered, given up, nothing under way.
use native.Mathlib.Omega.{arith}
use borrow.Author.Tests.{eq-eqb, ne_eqb}
use Rattle.meaning_cable.specs.Sending.{end_of}
use Rattle.cable_send.proofs.end_of.Goals as goal

pub returns-in-2 : goal.returns-in-2
unfolding end_of
returns-in-2 c = let s = c.args.link in rw (eq-eqb s.phase 2 c.in-2.is)

pub returns-in-3 : goal.returns-in-3
unfolding end_of
returns-in-3 c = let s = c.args.link in rw (ne_eqb s.phase 2 (omega (arith, c.in-3.is)), eq-eqb s.phase 3 c.in-3.is)

pub returns-in_default : goal.returns-in_default
unfolding end_of
returns-in_default c = let s = c.args.link in rw (ne_eqb s.phase 2 (omega arith), ne_eqb s.phase 3 (omega arith))
