-- `plan_marked` answers what was planned: a law of proofs/RecodePlanLaws for each `return`.
use mathlib.Core.Path.{sym, ap, ◌∙◌, subst}
use mathlib.Core.List.{List}
use Prim.Native.Nat.{ℕ}
use lib.ListN.{length}
use Rattle.recode_bytes.specs.Mapped.{CodeTable, first_without}
use Rattle.recode_plan.proofs.RecodePlanLaws.{place_inside, plan-stays, plan-marks, plan-unknown, plan-recodes}
use Rattle.recode_plan.proofs.RecodedLaws.{table-codes}
use Rattle.recode_plan.proofs.plan_marked.Goals as goal

pub bounds-set-place : goal.bounds-set-place
bounds-set-place c =
    let a = c.args in
    place_inside a.set.now a.shape a.room a.wanted c.requires.0 a.place c.requires.1 c.requires.2

pub returns-then-set-place : goal.returns-then-set-place
returns-then-set-place c =
    let a = c.args in
    sym (plan-stays a.set.now a.shape a.room a.wanted c.requires.0 a.place c.requires.1 c.requires.2 (c.if-set-place.true ∙ c.mark_of.ensures))

pub bounds-set-place-2 : goal.bounds-set-place-2
bounds-set-place-2 c =
    let a = c.args in
    place_inside a.set.now a.shape a.room a.wanted c.requires.0 a.place c.requires.1 c.requires.2

pub returns-then-set-place-eq-SEVEN_BITS : goal.returns-then-set-place-eq-SEVEN_BITS
returns-then-set-place-eq-SEVEN_BITS c =
    let a = c.args in
    sym (plan-marks a.set.now a.shape a.room a.wanted c.requires.0 a.place c.requires.1 c.requires.2
    (λ q. c.if-set-place.false (q ∙ sym c.mark_of.ensures)) c.if-set-place-eq-SEVEN_BITS.true)

pub first_without-first-requires : goal.first_without-first-requires
first_without-first-requires c =
    (c.plain_front-plain.ensures, subst CodeTable (sym c.table_into-table.ensures) (table-codes _))

pub returns-then-first-set : goal.returns-then-first-set
returns-then-first-set c =
    let a = c.args in
    c.refused_plan.ensures ∙ sym (plan-unknown a.set.now a.shape a.room a.wanted c.requires.0 a.place c.requires.1 c.requires.2
    (λ q. c.if-set-place.false (q ∙ sym c.mark_of.ensures)) c.if-set-place-eq-SEVEN_BITS.false _
    (c.first_without-first.ensures ∙ ap (λ (t : List ℕ). first_without t a.set.now 0 (length a.set.now)) c.table_into-table.ensures)
    c.if-first-set.true)

pub returns : goal.returns
returns c =
    let a = c.args in
    sym (plan-recodes a.set.now a.shape a.room a.wanted c.requires.0 a.place c.requires.1 c.requires.2
    (λ q. c.if-set-place.false (q ∙ sym c.mark_of.ensures)) c.if-set-place-eq-SEVEN_BITS.false _
    (c.first_without-first.ensures ∙ ap (λ (t : List ℕ). first_without t a.set.now 0 (length a.set.now)) c.table_into-table.ensures) _
    c.plain_front-plain.ensures c.if-first-set.false)
