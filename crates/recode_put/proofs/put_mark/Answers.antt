-- `put_mark` leaves the mark, and zeros after the set.
use mathlib.Core.Path.{ap, ◌∙◌}
use Prim.Native.Nat.{ℕ}
use lib.ListN.{set}
use Rattle.recode_put.specs.Recoded.{zeroed_after}
use Rattle.recode_put.proofs.RecodedPuts.{length-zeroed}
use Rattle.recode_put.proofs.put_mark.Goals as goal

pub shape_of-buffer : goal.shape_of-buffer
shape_of-buffer c =
    let a = c.args in
    length-zeroed a.buffer.now _ a.place _ a.used c.requires.1 c.put_nothing.ensures

pub returns : goal.returns
returns c =
    let a = c.args in
    c.put_nothing.ensures ∙ ap (λ (x : ℕ). zeroed_after a.used (set a.buffer.now a.place x)) c.mark_of.ensures
