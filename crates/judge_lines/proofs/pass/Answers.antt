use mathlib.Core.Path.{sym, ap, ◌∙◌}
use native.Mathlib.Omega.{arith}
use Rattle.line_read.proofs.LineMeaning.{read_back}
use Rattle.judge_line.proofs.StepLaws.{refused-err}
use Rattle.judge_lines.specs.Pass.{answered}
use Rattle.judge_lines.proofs.LineLoopLaws.{second-starts, along-second, along-end, along-bytes, along-least, along-within, along-bad, along-on, answered-bad}
use Rattle.judge_lines.proofs.pass.Goals as goal

pub overflow_add-at : goal.overflow_add-at
overflow_add-at c =
    omega (arith, c.well_formed, (read_back c.args.s.now c.args.second c.requires.second_so).within)

pub loop-init : goal.loop-init
loop-init c =
    (c.requires, along-second c.requires (second-starts c.args.second c.new-state.ensures c.mark.ensures c.mark-2.ensures))

pub size_at-size-requires : goal.size_at-size-requires
size_at-size-requires c =
    let l = c.loop in
    let b = along-bytes l.invariant.1 l.invariant.0.scanned (omega arith) in
    (omega (arith, b.0), b.1)

pub label_at-label-requires : goal.label_at-label-requires
label_at-label-requires c =
    let l = c.loop in
    let b = along-bytes l.invariant.1 l.invariant.0.scanned (omega arith) in
    (b.0, b.2)

pub line_step-requires : goal.line_step-requires
line_step-requires c =
    let l = c.loop in
    let inv = l.invariant in (
      along-least inv.1 inv.0.scanned (omega arith) c.label_at-label.ensures c.size_at-size.ensures.0,
      along-within inv.1 inv.0.scanned (omega arith) c.label_at-label.ensures c.size_at-size.ensures.0,
    )

pub returns-in-Err : goal.returns-in-Err
returns-in-Err c =
    let l = c.loop in
    let w = refused-err _ _ c.in-Err.ensures.number in
    answered-bad _ (λ z. w.1 (w.0 ∙ z))
    ∙ ap answered (along-bad l.invariant.1 l.invariant.0.scanned (omega arith) c.label_at-label.ensures c.size_at-size.ensures.0 c.in-Err.ensures)

pub overflow_add-at-in-loop : goal.overflow_add-at-in-loop
overflow_add-at-in-loop c =
    let l = c.loop in
    omega (arith, c.well_formed, along-within l.invariant.1 l.invariant.0.scanned (omega arith) c.label_at-label.ensures c.size_at-size.ensures.0)

pub loop-preserved : goal.loop-preserved
loop-preserved c =
    let l = c.loop in
    (l.invariant.0, along-on l.invariant.1 l.invariant.0.scanned (omega arith) c.label_at-label.ensures c.size_at-size.ensures.0 c.in_default.ensures)

pub ended-requires : goal.ended-requires
ended-requires c =
    c.loop.invariant.1.within

pub returns : goal.returns
returns c =
    c.ended.ensures ∙ ap answered (along-end c.loop.invariant.1 (omega arith))
