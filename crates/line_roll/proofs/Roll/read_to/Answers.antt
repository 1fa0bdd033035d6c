use Rattle.std.proofs.Common.{rules}
use native.Mathlib.Omega.{arith}
use Rattle.line_roll.specs.Rolled.{Lined}
use Rattle.line_roll.proofs.RollLaws.{start-next, labels-next, next-there, next-digits, next-size}
use Rattle.line_roll.proofs.Roll.read_to.Goals as goal

pub size_at-at-requires : goal.size_at-at-requires
size_at-at-requires g c =
    let l = c.loop-line in
    let r = c.loop-line.self in
    let d : Lined c.loop-line.self.set.now c.args.lines = rw c.loop-line.invariant.0 c.requires.lined in
    let n = next-there r.set.now r.labels l.line l.at l.invariant.2 c.args.lines d c.loop-line-test.true in
    (omega (arith, n), next-digits r.set.now r.labels l.line l.at l.invariant.2 c.args.lines d c.loop-line-test.true)

pub loop-line-preserved : goal.loop-line-preserved
loop-line-preserved g c =
    let l = c.loop-line in
    let r = c.loop-line.self in
    let d : Lined c.loop-line.self.set.now c.args.lines = rw c.loop-line.invariant.0 c.requires.lined in (
      l.invariant.0,
      l.invariant.1,
      start-next r.set.now r.labels l.line l.at l.invariant.2 _ (next-size r.set.now r.labels l.line l.at l.invariant.2 c.args.lines d c.loop-line-test.true _ c.size_at-at.ensures.0),
      labels-next r.set.now r.labels l.line l.at l.invariant.2 l.invariant.3 _ c.told_label.ensures (search rules),
    )
