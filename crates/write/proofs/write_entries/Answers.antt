-- `write_entries`: each return by the law of the answer.
use mathlib.Core.Path.{ap, ◌∙◌}
use native.Mathlib.Omega.{arith}
use Rattle.write.proofs.WriteLaws.{not-many, set-fits, answer-full, answer-long, answer-set}
use Rattle.write.proofs.write_entries.Goals as goal
use Rattle.std.specs.Prelude.{Err}

pub overflow_mul-total : goal.overflow_mul-total
overflow_mul-total c = omega (arith, not-many c.args.list.now c.args.n c.requires.0 c.requires.1, c.well_formed)

pub overflow_add-total : goal.overflow_add-total
overflow_add-total c = omega (arith, not-many c.args.list.now c.args.n c.requires.0 c.requires.1, c.well_formed)

pub overflow_add-total-2 : goal.overflow_add-total-2
overflow_add-total-2 c = omega (arith, not-many c.args.list.now c.args.n c.requires.0 c.requires.1, c.well_formed)

pub returns-then-out-total : goal.returns-then-out-total
returns-then-out-total c =
    let a = c.args in
    let r = answer-full a.list.now a.n c.requires.0 c.requires.1 a.out.now c.if-out-total.true in
    (ap Err c.at.ensures ∙ r.0, r.1)

pub returns-then-total-gt-SET_BYTES : goal.returns-then-total-gt-SET_BYTES
returns-then-total-gt-SET_BYTES c =
    let a = c.args in
    let r = answer-long a.list.now a.n c.requires.0 c.requires.1 a.out.now c.if-out-total.false c.if-total-gt-SET_BYTES.true in
    (ap Err c.at-then-total-gt-SET_BYTES.ensures ∙ r.0, r.1)

pub put_set-requires : goal.put_set-requires
put_set-requires c =
    let a = c.args in
    set-fits a.list.now a.n c.requires.0 c.requires.1 c.if-out-total.false

pub returns : goal.returns
returns c =
    let a = c.args in
    answer-set a.list.now a.n c.requires.0 c.requires.1 a.out.now c.if-out-total.false c.if-total-gt-SET_BYTES.false _ _
    c.put_set.ensures c.clear.ensures
