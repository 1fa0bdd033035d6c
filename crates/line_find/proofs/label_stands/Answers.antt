-- `label_stands` compares the four digits one by one: the first that differs, or the last, decides.
use Rattle.line_find.proofs.FirstPlaceLaws.{first-differs, second-differs, third-differs, last-decides}
use Rattle.line_find.proofs.label_stands.Goals as goal

pub returns-then-set-i : goal.returns-then-set-i
returns-then-set-i c =
    let a = c.args in
    first-differs a.label a.set.now a.at c.requires _ c.last_digit.ensures c.if-set-i.true

pub returns-then-set-i-2 : goal.returns-then-set-i-2
returns-then-set-i-2 c =
    let a = c.args in
    second-differs a.label a.set.now a.at c.requires _ c.last_digit.ensures c.if-set-i.false _ c.last_digit-2.ensures c.if-set-i-2.true

pub returns-then-set-i-3 : goal.returns-then-set-i-3
returns-then-set-i-3 c =
    let a = c.args in
    third-differs a.label a.set.now a.at c.requires _ c.last_digit.ensures c.if-set-i.false _ c.last_digit-2.ensures c.if-set-i-2.false _
    c.last_digit-3.ensures c.if-set-i-3.true

pub returns : goal.returns
returns c =
    let a = c.args in
    last-decides a.label a.set.now a.at c.requires _ c.last_digit.ensures c.if-set-i.false _ c.last_digit-2.ensures c.if-set-i-2.false _
    c.last_digit-3.ensures c.if-set-i-3.false _ c.last_digit-4.ensures
