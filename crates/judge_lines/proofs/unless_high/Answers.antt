-- `unless_high`: what is found in the bytes up to the end of the set, if 9206 was seen.
use mathlib.Core.Path.{sym, ap, ◌∙◌}
use lib.Seq.{length-take-le}
use Rattle.std.specs.Prelude.{Err}
use Rattle.line_seven.proofs.SevenWalkLaws.{high-found, high-none}
use Rattle.judge_lines.specs.Pass.{answered}
use Rattle.judge_lines.proofs.LineLoopLaws.{not-asked, asked}
use Rattle.judge_lines.proofs.unless_high.Goals as goal

pub returns-then-not-has_9206 : goal.returns-then-not-has_9206
returns-then-not-has_9206 c = ap answered (not-asked _ _ _ c.has_9206.ensures (c.if-not-has_9206.true))

pub slice_bounds-high_for-end : goal.slice_bounds-high_for-end
slice_bounds-high_for-end c =
    sym (length-take-le c.args.total c.args.s.now c.requires)

pub slice_bounds-high_for-end-2 : goal.slice_bounds-high_for-end-2
slice_bounds-high_for-end-2 c =
    sym (length-take-le c.args.total c.args.s.now c.requires)

pub returns-then-high-total : goal.returns-then-high-total
returns-then-high-total c =
    let found = high-found c.args.s.now c.args.total c.requires _ c.high_for-high.ensures c.if-high-total.true in
    ap Err c.at.ensures ∙ ap answered (found ∙ asked _ _ _ c.has_9206.ensures (c.if-not-has_9206.false))

pub returns : goal.returns
returns c =
    let none = high-none c.args.s.now c.args.total c.requires _ c.high_for-high.ensures c.if-high-total.false in
    ap answered (none ∙ asked _ _ _ c.has_9206.ensures (c.if-not-has_9206.false))
