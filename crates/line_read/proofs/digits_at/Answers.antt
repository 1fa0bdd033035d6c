use mathlib.Core.Path.{◌≡◌, sym, ◌∙◌}
use native.Mathlib.Omega.{arith}
use lib.ListN.{length, length-take, length-drop, take, drop}
use Prim.Native.Nat.{◌+◌, ◌-◌}
use Rattle.line_read.proofs.WrittenNumberLaws.{bytes-small, bytes-grow, byte-small, bytes-further, bytes-all}
use Rattle.line_read.proofs.digits_at.Goals as goal

pub overflow_mul-number : goal.overflow_mul-number
overflow_mul-number g c = omega (arith, bytes-small c.loop-b.number c.loop-b.b-index (omega (arith, length-take (c.args.at + g.row.N - c.args.at) (drop c.args.at c.args.s.now))) c.loop-b.invariant.0)

pub overflow_add-number : goal.overflow_add-number
overflow_add-number g c =
    let b = byte-small c.args.s.now c.args.at _ c.loop-b.b-index c.type_inv.s c.loop-b-test.true in
    omega (arith, b, c.from.ensures, bytes-small c.loop-b.number c.loop-b.b-index (omega (arith, length-take (c.args.at + g.row.N - c.args.at) (drop c.args.at c.args.s.now))) c.loop-b.invariant.0)

pub loop-b-preserved : goal.loop-b-preserved
loop-b-preserved g c =
    let l = c.loop-b in
    let b = byte-small c.args.s.now c.args.at (c.args.at + g.row.N - c.args.at) l.b-index c.type_inv.s c.loop-b-test.true in
    let e = sym (bytes-further (take (c.args.at + g.row.N - c.args.at) (drop c.args.at c.args.s.now)) l.number l.b-index c.loop-b-test.true) ∙ l.invariant.1 in
    rw c.from.ensures (bytes-grow l.number _ l.b-index l.invariant.0 b, e)

pub returns : goal.returns
returns g c =
    let l = c.loop-b in
    let n : c.args.at + g.row.N - c.args.at ≡ g.row.N = omega arith in
    let e : length (take (c.args.at + g.row.N - c.args.at) (drop c.args.at c.args.s.now)) ≡ g.row.N =
    omega (arith, length-take (c.args.at + g.row.N - c.args.at) (drop c.args.at c.args.s.now), length-drop c.args.at c.args.s.now) in
    let r = bytes-all (take (c.args.at + g.row.N - c.args.at) (drop c.args.at c.args.s.now)) l.number l.b-index (omega arith) (omega arith) l.invariant.0 l.invariant.1 in
    (rw n at r.0, rw e at r.1)
