-- A set that is refused, or after which nothing stands, is the last; any other is followed by the next.
use mathlib.Core.Path.{◌∙◌}
use native.Mathlib.Omega.{arith}
use Rattle.std.proofs.Common.{rules}
use Rattle.program_status.proofs.StopLaws.{asked, refused-at, refused-no, refused-number, whole-at, whole-no, ahead-some, ahead-next}
use Rattle.program_status.proofs.list_sets.Goals as goal

pub returns-in-Err-clause-stops : goal.returns-in-Err-clause-stops
returns-in-Err-clause-stops g c =
    let s = c.args.input.now in
    let at = c.loop-refusal.at in
    let r = c.in-Err.refusal in
    let e = asked s at _ c.judge.ensures ∙ c.in-Err.is in
    let a = c.loop-refusal.invariant.ahead in
    record { at-is = refused-at s at r e a; no-is = refused-no s at r e a; numbered = refused-number s at r e }

pub returns-then-set-shape-clause-stops : goal.returns-then-set-shape-clause-stops
returns-then-set-shape-clause-stops g c =
    let s = c.args.input.now in
    let at = c.loop-refusal.at in
    let x = c.in-Ok.shape in
    let e = asked s at _ c.judge.ensures ∙ c.in-Ok.is in
    let a = c.loop-refusal.invariant.ahead in
    record { at-is = whole-at s at x e (omega arith) a; no-is = whole-no s at x e (omega arith) a; numbered = tt }

pub loop-refusal-smaller : goal.loop-refusal-smaller
loop-refusal-smaller g c =
    let s = c.args.input.now in
    let at = c.loop-refusal.at in
    let x = c.in-Ok.shape in
    let some = ahead-some s at x (asked s at _ c.judge.ensures ∙ c.in-Ok.is) in
    omega arith

pub loop-refusal-preserved : goal.loop-refusal-preserved
loop-refusal-preserved g c =
    let s = c.args.input.now in
    let at = c.loop-refusal.at in
    let x = c.in-Ok.shape in
    let e = asked s at _ c.judge.ensures ∙ c.in-Ok.is in
    record {
      within = omega arith;
      ahead = ahead-next s at x e (omega arith) c.loop-refusal.invariant.ahead;
      kept = search rules;
    }
