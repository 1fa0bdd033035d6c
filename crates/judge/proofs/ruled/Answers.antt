-- `ruled`: each test of lines 1 and 2, the pass, and the sum.
use mathlib.Core.Path.{refl, sym, ap, ◌∙◌}
use native.Mathlib.Omega.{arith}
use Rattle.line_read.proofs.LineMeaning.{read_back}
use Rattle.judge_lines.proofs.LineLoopLaws.{answered-err, answered-ok}
use Rattle.judge.proofs.StartLaws.{first-other, first-untyped, first-typed, no_second, second-bytes, second-other, second-sum, rules-bad, sum-missing, pass-starts, sum-bad, sum-good}
use Rattle.judge.proofs.ruled.Goals as goal
use Rattle.std.specs.Prelude.{Err}

pub returns-then-label-ne-LABEL_8000 : goal.returns-then-label-ne-LABEL_8000
returns-then-label-ne-LABEL_8000 c =
    ap Err c.at.ensures ∙ first-other _ _ _ _ _ c.requires.0 c.if-label-ne-LABEL_8000.true

pub overflow_sub-end : goal.overflow_sub-end
overflow_sub-end c =
    omega (arith, (read_back c.args.s.now 0 c.requires.0).least)

pub slice_bounds-type_of-count : goal.slice_bounds-type_of-count
slice_bounds-type_of-count c =
    omega (arith, (read_back c.args.s.now 0 c.requires.0).least)

pub slice_bounds-type_of-start : goal.slice_bounds-type_of-start
slice_bounds-type_of-start c =
    omega (arith, (read_back c.args.s.now 0 c.requires.0).least)

pub slice_bounds-type_of-end : goal.slice_bounds-type_of-end
slice_bounds-type_of-end c =
    omega (arith, (read_back c.args.s.now 0 c.requires.0).within)

pub returns-in_default : goal.returns-in_default
returns-in_default c =
    ap Err c.at-in_default.ensures ∙ first-untyped _ _ _ _ _ c.requires.0 c.if-label-ne-LABEL_8000.false _ c.type_of-known.ensures c.in_default.is

pub returns-then-lines-lt-FIXED_LINES : goal.returns-then-lines-lt-FIXED_LINES
returns-then-lines-lt-FIXED_LINES c =
    let typed = first-typed _ _ _ _ _ c.requires.0 c.if-label-ne-LABEL_8000.false _ c.type_of-known.ensures _ c.in-Some.is c.requires.1 in
    ap Err c.at-no_sum.ensures ∙ no_second typed c.if-lines-lt-FIXED_LINES.true

pub label_at-requires : goal.label_at-requires
label_at-requires c =
    let typed = first-typed _ _ _ _ _ c.requires.0 c.if-label-ne-LABEL_8000.false _ c.type_of-known.ensures _ c.in-Some.is c.requires.1 in
    let b = second-bytes typed (omega (arith, c.if-lines-lt-FIXED_LINES.false)) in
    (b.0, b.2)

pub returns-then-label_at-ne-LABEL_8100 : goal.returns-then-label_at-ne-LABEL_8100
returns-then-label_at-ne-LABEL_8100 c =
    let typed = first-typed _ _ _ _ _ c.requires.0 c.if-label-ne-LABEL_8000.false _ c.type_of-known.ensures _ c.in-Some.is c.requires.1 in
    ap Err c.at-no_sum.ensures ∙ second-other typed (omega (arith, c.if-lines-lt-FIXED_LINES.false)) c.label_at.ensures c.if-label_at-ne-LABEL_8100.true

pub size_at-size-requires : goal.size_at-size-requires
size_at-size-requires c =
    let typed = first-typed _ _ _ _ _ c.requires.0 c.if-label-ne-LABEL_8000.false _ c.type_of-known.ensures _ c.in-Some.is c.requires.1 in
    let b = second-bytes typed (omega (arith, c.if-lines-lt-FIXED_LINES.false)) in
    (omega (arith, b.0), b.1)

pub sum_of-written-requires : goal.sum_of-written-requires
sum_of-written-requires c =
    omega (arith, (read_back c.args.s.now 0 c.requires.0).within)

pub returns-in_default-written : goal.returns-in_default-written
returns-in_default-written c =
    let typed = first-typed _ _ _ _ _ c.requires.0 c.if-label-ne-LABEL_8000.false _ c.type_of-known.ensures _ c.in-Some.is c.requires.1 in
    let summed = second-sum typed (omega (arith, c.if-lines-lt-FIXED_LINES.false)) c.label_at.ensures c.if-label_at-ne-LABEL_8100.false c.size_at-size.ensures.0 in
    c.unsummed.ensures ∙ sum-missing summed (sym c.sum_of-written.ensures ∙ c.in_default-written.is)

pub pass-requires : goal.pass-requires
pass-requires c =
    let typed = first-typed _ _ _ _ _ c.requires.0 c.if-label-ne-LABEL_8000.false _ c.type_of-known.ensures _ c.in-Some.is c.requires.1 in
    let summed = second-sum typed (omega (arith, c.if-lines-lt-FIXED_LINES.false)) c.label_at.ensures c.if-label_at-ne-LABEL_8100.false c.size_at-size.ensures.0 in
    pass-starts summed (sym c.sum_of-written.ensures ∙ c.in-Some-written.is)

pub returns-in-Err : goal.returns-in-Err
returns-in-Err c =
    let typed = first-typed _ _ _ _ _ c.requires.0 c.if-label-ne-LABEL_8000.false _ c.type_of-known.ensures _ c.in-Some.is c.requires.1 in
    let summed = second-sum typed (omega (arith, c.if-lines-lt-FIXED_LINES.false)) c.label_at.ensures c.if-label_at-ne-LABEL_8100.false c.size_at-size.ensures.0 in
    let w = answered-err _ _ c.in-Err.ensures in
    rules-bad summed w.0 w.1

pub returns-then-sum-length : goal.returns-then-sum-length
returns-then-sum-length c =
    let typed = first-typed _ _ _ _ _ c.requires.0 c.if-label-ne-LABEL_8000.false _ c.type_of-known.ensures _ c.in-Some.is c.requires.1 in
    let summed = second-sum typed (omega (arith, c.if-lines-lt-FIXED_LINES.false)) c.label_at.ensures c.if-label_at-ne-LABEL_8100.false c.size_at-size.ensures.0 in
    let sum = sym c.sum_of-written.ensures ∙ c.in-Some-written.is in
    ap Err c.at-then-sum-length.ensures ∙ sum-bad summed sum refl (answered-ok _ c.in_default-pass.ensures) c.if-sum-length.true

pub returns : goal.returns
returns c =
    let typed = first-typed _ _ _ _ _ c.requires.0 c.if-label-ne-LABEL_8000.false _ c.type_of-known.ensures _ c.in-Some.is c.requires.1 in
    let summed = second-sum typed (omega (arith, c.if-lines-lt-FIXED_LINES.false)) c.label_at.ensures c.if-label_at-ne-LABEL_8100.false c.size_at-size.ensures.0 in
    let sum = sym c.sum_of-written.ensures ∙ c.in-Some-written.is in
    sum-good summed sum refl (answered-ok _ c.in_default-pass.ensures) c.if-sum-length.false c.number.ensures
