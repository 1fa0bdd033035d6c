-- `put_gained` leaves the mapped bytes with the line and the new sum: `line-then-sum`.
use mathlib.Core.Path.{sym}
use native.Mathlib.Omega.{arith}
use lib.Seq.{length-take-le}
use Rattle.recode_put.proofs.RecodedPuts.{lent-mapped, line-then-sum}
use Rattle.recode_put.proofs.put_gained.Goals as goal

pub slice_bounds-map_bytes-end-2 : goal.slice_bounds-map_bytes-end-2
slice_bounds-map_bytes-end-2 c =
    let a = c.args in
    sym (length-take-le a.used a.buffer.now (omega arith))

pub returns : goal.returns
returns c =
    let a = c.args in
    let front = lent-mapped a.table.now a.buffer.now _ a.used c.map_bytes.ensures in
    line-then-sum a.wanted _ _ _ _ _ a.used front c.charset_line-line.ensures c.replace_middle.ensures c.put_digits.ensures
