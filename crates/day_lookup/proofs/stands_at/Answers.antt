use native.Mathlib.Omega.{arith}
use Rattle.day_lookup.proofs.StandsLaws.{stands-cut, stands-no-cr, stands-no-lf, back-none, back_other, back_more, back_all}
use Rattle.day_lookup.proofs.stands_at.Goals as goal

pub returns-then-file-need : goal.returns-then-file-need
returns-then-file-need c = stands-cut _ _ _ (omega arith)

pub returns-then-file-need-2 : goal.returns-then-file-need-2
returns-then-file-need-2 c = stands-cut _ _ _ (omega arith)

pub returns-then-file-end-ne-CR : goal.returns-then-file-end-ne-CR
returns-then-file-end-ne-CR c =
    let a = c.args in
    stands-no-cr a.file.now a.place a.asked.now c.if-file-end-ne-CR.true

pub returns-then-file-end-ne-LF : goal.returns-then-file-end-ne-LF
returns-then-file-end-ne-LF c =
    let a = c.args in
    stands-no-lf a.file.now a.place a.asked.now c.if-file-end-ne-LF.true

pub loop-i-init : goal.loop-i-init
loop-i-init c =
    let a = c.args in
    (omega arith, back-none a.file.now a.place a.asked.now (omega arith) c.if-file-end-ne-CR.false c.if-file-end-ne-LF.false)

pub returns-then-file-end : goal.returns-then-file-end
returns-then-file-end c =
    let a = c.args in
    back_other a.file.now a.place a.asked.now c.loop-i.i (omega arith) (omega arith) c.if-file-end.true

pub loop-i-preserved : goal.loop-i-preserved
loop-i-preserved c =
    let a = c.args in
    let l = c.loop-i in
    (omega arith, back_more a.file.now a.place a.asked.now l.i (omega arith) (omega arith) (omega arith) c.if-file-end.false l.invariant.1)

pub returns : goal.returns
returns c =
    let a = c.args in
    back_all a.file.now a.place a.asked.now c.loop-i.i (omega arith) c.loop-i.invariant.1
