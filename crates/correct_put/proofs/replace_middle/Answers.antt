-- `replace_middle` leaves what `replaced` says: `three-loans`.
use mathlib.Core.Path.{refl}
use Rattle.correct_put.proofs.MiddleLaws.{three-loans}
use Rattle.correct_put.proofs.replace_middle.Goals as goal

pub returns : goal.returns
returns c =
    let a = c.args in
    let p = c.requires in
    three-loans a.buffer.now a.new.now _ _ _ _ _ a.at a.old a.used _ _ p.within.0 p.within.1 p.room refl refl
    c.move_within.ensures refl
    c.copy_front.ensures refl
    c.clear.ensures
