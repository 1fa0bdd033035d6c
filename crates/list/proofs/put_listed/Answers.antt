-- `put_listed`: nothing for line 2, else the entry in the part from the offset on.
use native.Mathlib.Omega.{arith}
use Rattle.list.proofs.ListLaws.{other_length, line-none, line-put}
use Rattle.list.proofs.put_listed.Goals as goal

pub returns-then-k-eq-BEFORE_SUM : goal.returns-then-k-eq-BEFORE_SUM
returns-then-k-eq-BEFORE_SUM c =
    let a = c.args in
    line-none a.k a.label a.content.now a.out.now a.to c.if-k-eq-BEFORE_SUM.true

pub put_entry-requires : goal.put_entry-requires
put_entry-requires c =
    let a = c.args in
    (c.requires.0, c.requires.1, omega (arith, other_length a.k a.label a.content.now c.if-k-eq-BEFORE_SUM.false))

pub returns : goal.returns
returns c =
    let a = c.args in
    line-put a.k a.label a.content.now a.out.now _ a.to c.if-k-eq-BEFORE_SUM.false c.put_entry.ensures
