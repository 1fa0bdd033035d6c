use mathlib.Core.Path.{refl}
use native.Mathlib.Omega.{arith}
use Rattle.recode_bytes.specs.Mapped.{mapped}
use Rattle.recode_bytes.proofs.BytesLaws.{map-more, part-mapped}
use Rattle.recode_bytes.proofs.map_each.Goals as goal

pub loop-b-init : goal.loop-b-init
unfolding mapped
loop-b-init c = (omega arith, refl)

pub loop-b-preserved : goal.loop-b-preserved
loop-b-preserved c =
    let l = c.loop-b in
    (omega arith, map-more c.args.table.now _ l.b-items l.b-index (omega arith) l.invariant.1)

pub returns : goal.returns
returns c =
    let a = c.args in
    let l = c.loop-b in
    part-mapped a.table.now a.s.now l.b-items a.at a.k _ l.b-index (omega arith) (omega arith) c.loop-b-test.false l.invariant.0 l.invariant.1
