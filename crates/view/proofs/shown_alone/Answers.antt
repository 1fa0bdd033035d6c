-- `shown_alone`: 18 and 19, then the sheet.
use mathlib.Core.Path.{◌∙◌}
use Rattle.view.proofs.AloneLaws.{alone-follows, alone-zero, alone-beyond, alone-there}
use Rattle.view.proofs.shown_alone.Goals as goal

pub returns-then-shape-set : goal.returns-then-shape-set
returns-then-shape-set c =
    c.refused_view.ensures ∙ alone-follows _ c.args.shape _ _ c.if-shape-set.true

pub returns-then-line-lt1 : goal.returns-then-line-lt1
returns-then-line-lt1 c =
    let x = c.args.shape in
    c.refused_view-then-line-lt1.ensures ∙ alone-zero _ x _ _ c.if-shape-set.false c.if-line-lt1.true

pub returns-then-shape-line : goal.returns-then-shape-line
returns-then-shape-line c =
    let x = c.args.shape in
    c.refused_view-then-shape-line.ensures ∙ alone-beyond _ x _ _ c.if-shape-set.false c.if-line-lt1.false c.if-shape-line.true

pub returns : goal.returns
returns c =
    let x = c.args.shape in
    c.shown_under.ensures ∙ alone-there _ x _ _ c.if-shape-set.false c.if-line-lt1.false c.if-shape-line.false
