use mathlib.Core.Path.{sym, ◌∙◌}
use native.Mathlib.Omega.{arith}
use Rattle.byte_high.proofs.HighLaws.{front-most}
use Rattle.byte_low.proofs.SeekLaws.{seek-end}
use Rattle.recode_bytes.specs.Mapped.{has_character}
use Rattle.recode_bytes.proofs.BytesLaws.{part-more, plain-front, part-stops, part-over}
use Rattle.recode_bytes.proofs.first_without.Goals as goal

pub loop-i-init : goal.loop-i-init
loop-i-init c =
    let a = c.args in
    let p = c.requires in
    (front-most a.s.now a.plain p.0, plain-front a.table.now a.s.now p.1 a.plain p.0)

pub returns-then-found-end : goal.returns-then-found-end
returns-then-found-end c =
    let a = c.args in
    let l = c.loop-i in
    let p = c.pass_plain-from.ensures in
    let q = c.part_end-end.ensures in
    part-stops a.table.now a.s.now c.requires.1 l.i _ _ _ p.0 q.0 q.1 p.2 c.seek-found.ensures c.if-found-end.true ∙ l.invariant.1

pub loop-i-smaller : goal.loop-i-smaller
loop-i-smaller c =
    let a = c.args in
    let l = c.loop-i in
    let p = c.pass_plain-from.ensures in
    let q = c.part_end-end.ensures in
    omega (arith, q.1, part-more l.i _ _ _ c.loop-i-test.true p.0 q.0 q.2)

pub loop-i-preserved : goal.loop-i-preserved
loop-i-preserved c =
    let a = c.args in
    let l = c.loop-i in
    let p = c.pass_plain-from.ensures in
    let q = c.part_end-end.ensures in
    (q.1, part-over a.table.now a.s.now c.requires.1 l.i _ _ _ p.0 q.0 q.1 p.2 c.seek-found.ensures c.if-found-end.false ∙ l.invariant.1)

pub returns : goal.returns
returns c =
    let a = c.args in
    sym (seek-end (has_character a.table.now) a.s.now _ _ c.loop-i-test.false) ∙ c.loop-i.invariant.1
