use mathlib.Core.Path.{◌≡◌, refl, ap, ◌∙◌}
use Prim.Native.Nat.{◌+◌, ◌-◌}
use native.Mathlib.Omega.{arith}
use Rattle.byte_low.specs.Seek.{first_not}
use Rattle.byte_low.proofs.SeekLaws.{seek-done, seek-join}
use Rattle.byte_low.proofs.pass_blocks.Goals as goal

pub loop-i-init : goal.loop-i-init
loop-i-init g c =
    let a = c.args in
    record { least = omega arith; most = omega arith; none = seek-done (g.T.ByteTest.passes a.test) a.s.now a.at a.at a.at (omega arith) }

pub loop-i-preserved : goal.loop-i-preserved
loop-i-preserved g c =
    let a = c.args in
    let i = c.loop-i.i in
    let passed = c.loop-i.invariant in
    let passes = g.T.ByteTest.passes a.test in
    let n : i + g.row.N - i ≡ g.row.N = omega arith in
    let block : first_not passes a.s.now i (i + g.row.N - i) ≡ i + g.row.N = ap (first_not passes a.s.now i) n ∙ c.if-not-all_pass.ensures refl in
    record {
      least = omega (arith, passed.least);
      most = omega arith;
      none = seek-join passes a.s.now a.at i (i + g.row.N) passed.least (omega arith) passed.none block;
    }
