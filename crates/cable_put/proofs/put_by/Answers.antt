-- `put_by`: the data, and after B02 the end of the last line.
use native.Mathlib.Omega.{arith}
use Rattle.cable_put.proofs.BlockPutLaws.{by-least, last-length, other_length, last-put, other-put}
use Rattle.cable_put.proofs.put_by.Goals as goal

pub put_restored-end-requires : goal.put_restored-end-requires
put_restored-end-requires c =
    omega (arith, by-least c.args.label c.args.bytes.now)

pub returns-then-label-ne-B02 : goal.returns-then-label-ne-B02
returns-then-label-ne-B02 c =
    let a = c.args in
    let p = c.put_restored-end.ensures in
    (omega (arith, other_length a.label a.bytes.now (λ q. omega arith), p.0), other-put a.label a.bytes.now a.at a.out.now _ (λ q. omega arith) p.1)

pub put_end-requires : goal.put_end-requires
put_end-requires c =
    omega (arith, last-length c.args.label c.args.bytes.now (omega arith), c.put_restored-end.ensures.0)

pub overflow_add-result : goal.overflow_add-result
overflow_add-result c =
    omega (arith, last-length c.args.label c.args.bytes.now (omega arith), c.put_restored-end.ensures.0)

pub returns : goal.returns
returns c =
    let a = c.args in
    let p = c.put_restored-end.ensures in (
      omega (arith, last-length a.label a.bytes.now (omega arith), p.0),
      last-put a.label a.bytes.now a.at _ a.out.now _ _ (omega arith) c.requires p.0 p.1 c.put_end.ensures,
    )
