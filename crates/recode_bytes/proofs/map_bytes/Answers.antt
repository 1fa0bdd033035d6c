use mathlib.Core.Path.{refl, ap, ◌∙◌}
use Prim.Native.Nat.{ℕ}
use native.Mathlib.Omega.{arith}
use lib.ListN.{length}
use Rattle.byte_high.proofs.HighLaws.{front-most}
use Rattle.recode_bytes.specs.Mapped.{mapped_at}
use Rattle.recode_bytes.proofs.BytesLaws.{part-more, length_at, map-front, map-all, map-part}
use Rattle.recode_bytes.proofs.map_bytes.Goals as goal

pub loop-i-init : goal.loop-i-init
loop-i-init c =
    let a = c.args in
    let p = c.requires in
    (front-most a.s.now a.plain p.0, (map-front a.table.now p.1 a.s.now a.plain p.0, refl))

pub loop-i-smaller : goal.loop-i-smaller
loop-i-smaller c =
    let a = c.args in
    let l = c.loop-i in
    let inv = l.invariant in
    let p = c.pass_plain-from.ensures in
    let q = c.part_end-end.ensures in
    omega (arith, q.1, inv.1.1, part-more l.i _ _ _ c.loop-i-test.true p.0 q.0 q.2)

pub loop-i-preserved : goal.loop-i-preserved
loop-i-preserved c =
    let a = c.args in
    let l = c.loop-i in
    let inv = l.invariant in
    let p = c.pass_plain-from.ensures in
    let q = c.part_end-end.ensures in
    let e = c.map_each.ensures in
    let n = ap length e ∙ length_at a.table.now l.s _ _ (omega (arith, p.1, q.0, q.1)) in
    let m = map-part a.table.now c.requires.1 a.s.now l.s _ l.i _ _ p.0 q.0 (omega (arith, q.1, inv.1.1)) inv.1.1 inv.1.0 p.2 e in
    (omega (arith, q.1, inv.1.1), (m, n ∙ inv.1.1))

pub returns : goal.returns
returns c =
    let a = c.args in
    let l = c.loop-i in
    l.invariant.1.0 ∙ (ap (λ (j : ℕ). mapped_at a.table.now 0 j a.s.now) (omega arith) ∙ map-all a.table.now a.s.now)
