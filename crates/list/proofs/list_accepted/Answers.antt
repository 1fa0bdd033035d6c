-- `list_accepted`: the need is the length of what is put; each return by the law of the answer.
use mathlib.Core.Path.{refl, ap, ◌∙◌}
use native.Mathlib.Omega.{arith}
use Rattle.list.proofs.ListLaws.{listed-are, answer-full, answer-made}
use Rattle.list.proofs.list_accepted.Goals as goal
use Rattle.std.specs.Prelude.{Err}

pub overflow_sub-need : goal.overflow_sub-need
overflow_sub-need c =
    let e = listed-are c.args.set.now c.args.shape c.requires in
    omega (arith, e.some, e.few, e.long)

pub overflow_sub-need-2 : goal.overflow_sub-need-2
overflow_sub-need-2 c =
    let e = listed-are c.args.set.now c.args.shape c.requires in
    omega (arith, e.some, e.few, e.long)

pub overflow_mul-need : goal.overflow_mul-need
overflow_mul-need c =
    let e = listed-are c.args.set.now c.args.shape c.requires in
    omega (arith, e.some, e.few, e.long)

pub overflow_sub-need-3 : goal.overflow_sub-need-3
overflow_sub-need-3 c =
    let e = listed-are c.args.set.now c.args.shape c.requires in
    omega (arith, e.some, e.few, e.long)

pub returns-then-out-need : goal.returns-then-out-need
returns-then-out-need c =
    let a = c.args in
    let r = answer-full a.set.now a.shape c.requires a.out.now _ refl c.if-out-need.true in
    (ap Err c.at.ensures ∙ r.0, r.1)

pub put_entries-requires : goal.put_entries-requires
put_entries-requires c =
    let e = listed-are c.args.set.now c.args.shape c.requires in
    record { all_read = e.all; room = omega (arith, e.need, c.if-out-need.false) }

pub returns : goal.returns
returns c =
    let a = c.args in
    answer-made a.set.now a.shape c.requires a.out.now _ refl _ _ (omega arith) c.put_entries.ensures c.clear.ensures
