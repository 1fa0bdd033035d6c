-- `put_nothing` leaves zeros after the set: `lent-zeros`.
use Rattle.recode_put.proofs.RecodedPuts.{lent-zeros}
use Rattle.recode_put.proofs.put_nothing.Goals as goal

pub returns : goal.returns
returns c =
    let a = c.args in
    lent-zeros a.buffer.now _ a.used c.clear.ensures
