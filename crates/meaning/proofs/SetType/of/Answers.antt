-- `SetType::of` is the search for the number among the five.
use borrow.Author.Tests.{ne_eqb}
use Rattle.meaning.specs.Limits.{type_of}
use Rattle.meaning.proofs.SetType.of.Goals as goal

pub returns-in-6300 : goal.returns-in-6300
unfolding type_of
returns-in-6300 c = rw c.in-6300.is

pub returns-in-6301 : goal.returns-in-6301
unfolding type_of
returns-in-6301 c = rw c.in-6301.is

pub returns-in-6302 : goal.returns-in-6302
unfolding type_of
returns-in-6302 c = rw c.in-6302.is

pub returns-in-6310 : goal.returns-in-6310
unfolding type_of
returns-in-6310 c = rw c.in-6310.is

pub returns-in-6311 : goal.returns-in-6311
unfolding type_of
returns-in-6311 c = rw c.in-6311.is

pub returns-in_default : goal.returns-in_default
unfolding type_of
returns-in_default c =
    let r = c.in_default.in_default-own.rest in
    simp (ne_eqb _ _ r.0.0.0.0.1, ne_eqb _ _ r.0.0.0.1, ne_eqb _ _ r.0.0.1, ne_eqb _ _ r.0.1, ne_eqb _ _ r.1)
