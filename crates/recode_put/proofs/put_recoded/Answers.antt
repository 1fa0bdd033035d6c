-- `put_recoded` leaves the mapped bytes with the mark, and zeros after them.
use mathlib.Core.Path.{sym, ap, ◌∙◌}
use native.Mathlib.Omega.{arith}
use mathlib.Core.List.{List}
use Prim.Native.Nat.{ℕ}
use lib.Seq.{length-take-le}
use Rattle.recode_put.specs.Recoded.{zeroed_after, remarked}
use Rattle.recode_put.proofs.RecodedPuts.{lent-mapped}
use Rattle.recode_put.proofs.put_recoded.Goals as goal

pub slice_bounds-map_bytes-end-2 : goal.slice_bounds-map_bytes-end-2
slice_bounds-map_bytes-end-2 c =
    let a = c.args in
    sym (length-take-le a.used a.buffer.now (omega arith))

pub returns : goal.returns
returns c =
    let a = c.args in
    let front = lent-mapped a.table.now a.buffer.now _ a.used c.map_bytes.ensures in
    c.put_mark.ensures ∙ ap (λ (x : List ℕ). zeroed_after a.used (remarked a.place a.wanted x)) front
