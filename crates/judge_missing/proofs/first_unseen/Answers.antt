-- `first_unseen` stops at the first label that was not seen.
use mathlib.Core.Path.{sym, ◌∙◌}
use native.Mathlib.Omega.{arith}
use Rattle.judge_missing.proofs.FlagListLaws.{by-seen, by-unseen, rows-left, by-end}
use Rattle.judge_missing.proofs.first_unseen.Goals as goal

pub returns-then-not-has : goal.returns-then-not-has
returns-then-not-has g c =
    let l = c.loop-number in
    sym (by-unseen _ _ _ l.number-index (0, 0) (omega arith) (sym c.has.ensures ∙ c.if-not-has.true)) ∙ l.invariant.0

pub loop-number-preserved : goal.loop-number-preserved
loop-number-preserved g c =
    let l = c.loop-number in (
      sym (by-seen _ _ _ l.number-index (0, 0) (omega arith) (sym c.has.ensures ∙ c.if-not-has.false)) ∙ l.invariant.0,
      rows-left c.args.flags.now c.args.place _ l.number-index (0, 0) (omega arith) l.invariant.1,
    )

pub returns : goal.returns
returns g c =
    let l = c.loop-number in
    sym (by-end _ _ _ l.number-index (omega arith)) ∙ l.invariant.0
