-- `put_content` leaves what `recontented` says: `three-puts`.
use Rattle.correct_put.proofs.MiddleLaws.{three-puts}
use Rattle.correct_put.proofs.put_content.Goals as goal

pub returns : goal.returns
returns c =
    let a = c.args in
    three-puts a.buffer.now _ _ _ a.content.now a.place a.old a.used a.total c.requires.total_room.0
    c.replace_middle.ensures
    c.put_digits.ensures
    c.put_digits-2.ensures
