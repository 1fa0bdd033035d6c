-- `told_label` is the walk `told_label`.
use mathlib.Core.Path.{sym, ◌∙◌}
use Prim.Native.Nat.{◌+◌}
use native.Mathlib.Omega.{arith}
use borrow.Author.Tests.{leb-true, leb-false}
use Rattle.meaning.specs.Lines.{length_digits}
use Rattle.line_read.proofs.ToldLaws.{label-cut, label-told, four-made}
use Rattle.line_read.proofs.told_label.Goals as goal

pub returns-then-not-has_lead : goal.returns-then-not-has_lead
returns-then-not-has_lead c = label-cut _ _ (leb-false _ _ (sym c.has_lead.ensures ∙ c.if-not-has_lead.true))

pub overflow_add-at : goal.overflow_add-at
overflow_add-at c =
    let h = leb-true _ _ (sym c.has_lead.ensures ∙ c.if-not-has_lead.false) in
    omega (arith, h)

pub digits_at-n-requires : goal.digits_at-n-requires
digits_at-n-requires c =
    let h = leb-true _ _ (sym c.has_lead.ensures ∙ c.if-not-has_lead.false) in
    (omega arith, omega (arith, h))

pub returns-then-n-lt-FOUR_ZEROS : goal.returns-then-n-lt-FOUR_ZEROS
returns-then-n-lt-FOUR_ZEROS c =
    let h = leb-true _ _ (sym c.has_lead.ensures ∙ c.if-not-has_lead.false) in
    let n = four-made c.args.s.now (c.args.at + length_digits) c.digits_at-n.result (omega (arith, h)) c.digits_at-n.ensures.0 in
    omega arith ∙ label-told _ _ h _ n

pub returns : goal.returns
returns c =
    let h = leb-true _ _ (sym c.has_lead.ensures ∙ c.if-not-has_lead.false) in
    let n = four-made c.args.s.now (c.args.at + length_digits) c.digits_at-n.result (omega (arith, h)) c.digits_at-n.ensures.0 in
    label-told _ _ h _ n
