use mathlib.Core.Path.{◌∙◌}
use native.Mathlib.Omega.{arith}
use Rattle.cable_put.proofs.RestoreLaws.{byte_fits, byte-turned, size-turn, size-end, put-end}
use Rattle.cable_put.proofs.put_restored.Goals as goal

pub put_byte-to-requires : goal.put_byte-to-requires
put_byte-to-requires c =
    byte_fits c.args.bytes.now c.loop-b.b-index c.loop-b.to c.loop-b.out (omega arith) (omega arith)

pub loop-b-preserved : goal.loop-b-preserved
loop-b-preserved c =
    let x = c.args.bytes.now in
    let l = c.loop-b in
    let t = byte-turned x l.b-index l.to l.out (omega arith) (omega arith) _ _ c.put_byte-to.ensures.0 c.put_byte-to.ensures.1 in
    (t.same-room ∙ l.invariant.0, size-turn x l.b-index l.to _ (omega arith) c.put_byte-to.ensures.0 ∙ l.invariant.1, t.same ∙ l.invariant.2)

pub returns : goal.returns
returns c =
    let x = c.args.bytes.now in
    let l = c.loop-b in
    (size-end x l.b-index l.to (omega arith) ∙ l.invariant.1, put-end x l.b-index l.to l.out (omega arith) ∙ l.invariant.2)
