-- `append_accepted`: each return by the law of the answer.
use mathlib.Core.Path.{ap, ◌∙◌}
use mathlib.Core.List.{[], ◌∷◌}
use Prim.Native.Nat.{◌*◌}
use Rattle.byte_put.specs.Places.{over}
use Rattle.meaning_day.specs.declared.DayEntry.{DayEntry}
use Rattle.meaning_day.specs.DayCalls.{columns}
use Rattle.day_index.proofs.CountLaws.{set_here}
use Rattle.day_index.proofs.DayAnswerLaws.{append-second, append-full, append-no-room, append-made}
use Rattle.day_index.proofs.append_accepted.Goals as goal
use Rattle.std.specs.Prelude.{Err}

pub returns-then-shape-file : goal.returns-then-shape-file
returns-then-shape-file c =
    let a = c.args in
    let s = set_here a.file.now a.old c.requires.0 a.shape c.requires.1 in
    let r = append-second a.file.now a.old a.index.now a.count a.shape c.requires.0 s c.if-shape-file.true in
    (ap Err c.at.ensures ∙ r.0, r.1)

pub returns-then-count-ge-SETS : goal.returns-then-count-ge-SETS
returns-then-count-ge-SETS c =
    let a = c.args in
    let s = set_here a.file.now a.old c.requires.0 a.shape c.requires.1 in
    let r = append-full a.file.now a.old a.index.now a.count a.shape c.requires.0 s c.if-shape-file.false c.if-count-ge-SETS.true in
    (ap Err c.at-then-count-ge-SETS.ensures ∙ r.0, r.1)

pub returns-then-index-count : goal.returns-then-index-count
returns-then-index-count c =
    let a = c.args in
    let s = set_here a.file.now a.old c.requires.0 a.shape c.requires.1 in
    let r = append-no-room a.file.now a.old a.index.now a.count a.shape c.requires.0 s c.if-shape-file.false c.if-count-ge-SETS.false c.if-index-count.true in
    (ap Err c.at-then-index-count.ensures ∙ r.0, r.1)

pub returns : goal.returns
returns c =
    let a = c.args in
    let s = set_here a.file.now a.old c.requires.0 a.shape c.requires.1 in
    append-made a.file.now a.old a.index.now a.count a.shape c.requires.0 s c.if-shape-file.false c.if-count-ge-SETS.false c.if-index-count.false _
    (c.put_entry.ensures ∙ ap (λ (e : DayEntry). over (a.count * 4) (columns (e ∷ [])) a.index.now) c.entry_at.ensures)
