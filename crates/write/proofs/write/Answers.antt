-- `write`: 1, and then as the list is judged.
use mathlib.Core.Path.{sym, ap, ◌∙◌}
use native.Mathlib.Omega.{arith}
use Rattle.meaning.proofs.ResultLaws.{handed-on}
use Rattle.write.proofs.WriteLaws.{answer-empty, answer-refused}
use Rattle.write.proofs.write.Goals as goal
use Rattle.std.specs.Prelude.{Err}

pub returns-then-list-eq0 : goal.returns-then-list-eq0
returns-then-list-eq0 c =
    let a = c.args in
    let r = answer-empty a.list.now a.out.now c.if-list-eq0.true in
    (ap Err c.at.ensures ∙ r.0, r.1)

pub write_entries-requires : goal.write_entries-requires
write_entries-requires c =
    (omega (arith, c.if-list-eq0.false), sym c.judge_list.ensures ∙ c.in_ok-entries.was)

pub returns-in_err-entries : goal.returns-in_err-entries
returns-in_err-entries c =
    let a = c.args in
    let r = answer-refused a.list.now a.out.now _ (omega (arith, c.if-list-eq0.false)) (sym c.judge_list.ensures ∙ c.in_err-entries.was) in
    (handed-on _ c.from_residual.ensures.1 ∙ r.0, r.1)
