-- `put_line`: four parts put one after the other.
use Prim.Native.Nat.{◌+◌}
use Rattle.byte_put.proofs.OverLaws.{over-lent}
use Rattle.write_lines.proofs.LinePutLaws.{line-put}
use Rattle.write_lines.proofs.put_line.Goals as goal

pub returns : goal.returns
returns c =
    let a = c.args in
    line-put a.out.now _ _ _ _ a.content.now a.label a.to c.requires c.put_digits.ensures
    c.put_digits-2.ensures (over-lent _ _ (a.to + 7) a.content.now c.copy_front.ensures)
    c.put_end.ensures
