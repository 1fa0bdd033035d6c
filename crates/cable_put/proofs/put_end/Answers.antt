-- `put_end`: the two stores are the two bytes.
use native.Mathlib.Omega.{arith}
use lib.ListN.{length-set}
use Rattle.cable_put.proofs.RestoreLaws.{end-put}
use Rattle.cable_put.proofs.put_end.Goals as goal

pub bounds-out-at-2 : goal.bounds-out-at-2
bounds-out-at-2 c = omega (arith, length-set c.args.out.now c.args.at 13)

pub returns : goal.returns
returns c = end-put c.args.out.now c.args.at c.requires
