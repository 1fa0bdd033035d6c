-- `plan_gain` answers what was planned: a law of proofs/RecodePlanLaws for each `return`.
use mathlib.Core.Path.{sym, ap, ◌∙◌, subst}
use mathlib.Core.List.{List}
use Prim.Native.Nat.{ℕ}
use lib.ListN.{length}
use Rattle.recode_bytes.specs.Mapped.{CodeTable, first_without}
use Rattle.recode_plan.proofs.RecodePlanLaws.{plan-too-many, plan-gains}
use Rattle.recode_plan.proofs.RecodedLaws.{table-codes}
use Rattle.recode_plan.proofs.plan_gain.Goals as goal

pub returns-then-shape-ge-LINES : goal.returns-then-shape-ge-LINES
returns-then-shape-ge-LINES c =
    let a = c.args in
    c.refused_plan.ensures ∙ sym (plan-too-many a.set.now a.shape a.room c.requires.0 c.requires.1 c.if-shape-ge-LINES.true)

pub first_without-without-requires : goal.first_without-without-requires
first_without-without-requires c =
    (c.plain_front-plain.ensures, subst CodeTable (sym c.table_into-table.ensures) (table-codes _))

pub returns : goal.returns
returns c =
    let a = c.args in
    c.plan_gained.ensures ∙ plan-gains a.set.now a.shape a.room c.requires.0 c.requires.1 c.if-shape-ge-LINES.false _ _
    c.plain_front-plain.ensures
    (c.first_without-without.ensures ∙ ap (λ (t : List ℕ). first_without t a.set.now 0 (length a.set.now)) c.table_into-table.ensures)
