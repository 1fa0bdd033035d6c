-- `told_length` is the walk `told_length`.
use mathlib.Core.Path.{sym, ◌∙◌}
use native.Mathlib.Omega.{arith}
use borrow.Author.Tests.{leb-true, leb-false}
use Rattle.line_read.proofs.ToldLaws.{length_cut, length-told, three-made}
use Rattle.line_read.proofs.told_length.Goals as goal

pub returns-then-not-has_lead : goal.returns-then-not-has_lead
returns-then-not-has_lead c =
    (length_cut _ _ (leb-false _ _ (sym c.has_lead.ensures ∙ c.if-not-has_lead.true)), omega arith)

pub digits_at-n-requires : goal.digits_at-n-requires
digits_at-n-requires c =
    let h = leb-true _ _ (sym c.has_lead.ensures ∙ c.if-not-has_lead.false) in
    (omega arith, omega (arith, h))

pub returns-then-n : goal.returns-then-n
returns-then-n c =
    let h = leb-true _ _ (sym c.has_lead.ensures ∙ c.if-not-has_lead.false) in
    let n = three-made c.args.s.now c.args.at c.digits_at-n.result (omega (arith, h)) c.digits_at-n.ensures.0 in
    (omega arith ∙ length-told _ _ h _ n, omega arith)

pub returns : goal.returns
returns c =
    let h = leb-true _ _ (sym c.has_lead.ensures ∙ c.if-not-has_lead.false) in
    let n = three-made c.args.s.now c.args.at c.digits_at-n.result (omega (arith, h)) c.digits_at-n.ensures.0 in
    (length-told _ _ h _ n, omega (arith, c.digits_at-n.ensures.1))
