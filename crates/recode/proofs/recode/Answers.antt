-- `recode` answers and leaves what the definition says: by what was planned.
use mathlib.Core.Path.{sym, ap, ◌∙◌, subst}
use mathlib.Core.List.{List}
use Prim.Native.Nat.{ℕ}
use native.Mathlib.Omega.{arith}
use lib.Seq.{length-take-le}
use Rattle.std.specs.Prelude.{Ok}
use Rattle.meaning.proofs.ResultLaws.{handed-on}
use Rattle.meaning.specs.Refusals.{refused}
use Rattle.recode_bytes.specs.Mapped.{CodeTable}
use Rattle.recode_plan.proofs.RecodedLaws.{table-codes}
use Rattle.recode_put.specs.Recoded.{zeroed_after, remarked, mapped_front, with_line}
use Rattle.recode.proofs.RecodeCallLaws.{recode-over, recode-empty, kept, plan-refused, stays-made, marks-inside, marks-made}
use Rattle.recode.proofs.RecodeCallLaws.{recodes-inside, recodes-plain, recodes-made, gains-after, gains-room, gains-plain, gains-made}
use Rattle.recode.proofs.recode.Goals as goal

pub returns-then-room-used : goal.returns-then-room-used
returns-then-room-used c =
    let a = c.args in
    kept a.buffer.now a.used a.wanted _ (recode-over a.buffer.now a.used a.wanted c.if-room-used.true ∙ ap refused (sym c.at.ensures))

pub returns-then-used-eq0 : goal.returns-then-used-eq0
returns-then-used-eq0 c =
    let a = c.args in
    kept a.buffer.now a.used a.wanted _ (recode-empty a.buffer.now a.used a.wanted c.if-used-eq0.true ∙ ap refused (sym c.at-then-used-eq0.ensures))

pub slice_bounds-plan_recode-end-2 : goal.slice_bounds-plan_recode-end-2
slice_bounds-plan_recode-end-2 c =
    let a = c.args in
    sym (length-take-le a.used a.buffer.now c.if-room-used.false)

pub plan_recode-requires : goal.plan_recode-requires
plan_recode-requires c =
    let a = c.args in
    omega (arith, length-take-le a.used a.buffer.now c.if-room-used.false)

pub put_mark-requires : goal.put_mark-requires
put_mark-requires c =
    let a = c.args in
    (marks-inside a.buffer.now a.used a.wanted c.if-room-used.false _ (sym c.plan_recode.ensures ∙ (c.in_ok-plan.was ∙ ap Ok c.in-Marks.is)), c.if-room-used.false)

pub put_recoded-requires : goal.put_recoded-requires
put_recoded-requires c =
    let a = c.args in
    let q = sym c.plan_recode.ensures ∙ (c.in_ok-plan.was ∙ ap Ok c.in-Recodes.is) in
    let t = subst CodeTable (sym c.table_into-table.ensures) (table-codes a.wanted) in (
      recodes-inside a.buffer.now a.used a.wanted c.if-room-used.false _ _ q,
      c.if-room-used.false,
      recodes-plain a.buffer.now a.used a.wanted c.if-room-used.false _ _ q,
      t,
    )

pub overflow_add-total : goal.overflow_add-total
overflow_add-total c =
    let a = c.args in
    let q = sym c.plan_recode.ensures ∙ (c.in_ok-plan.was ∙ ap Ok c.in-Gains.is) in
    omega (arith, gains-room a.buffer.now a.used a.wanted c.if-room-used.false _ q)

pub put_gained-requires : goal.put_gained-requires
put_gained-requires c =
    let a = c.args in
    let q = sym c.plan_recode.ensures ∙ (c.in_ok-plan.was ∙ ap Ok c.in-Gains.is) in
    let t = subst CodeTable (sym c.table_into-table.ensures) (table-codes a.wanted) in (
      gains-after a.buffer.now a.used a.wanted c.if-room-used.false _ q,
      gains-room a.buffer.now a.used a.wanted c.if-room-used.false _ q,
      gains-plain a.buffer.now a.used a.wanted c.if-room-used.false _ q,
      t,
    )

pub returns-in_err-plan : goal.returns-in_err-plan
returns-in_err-plan c =
    let a = c.args in
    let r = kept a.buffer.now a.used a.wanted _ (plan-refused a.buffer.now a.used a.wanted _ c.if-room-used.false (sym c.plan_recode.ensures ∙ c.in_err-plan.was)) in
    (handed-on _ c.from_residual.ensures.1 ∙ r.0, r.1)

pub returns-in-Stays : goal.returns-in-Stays
returns-in-Stays c =
    let a = c.args in
    let m = stays-made a.buffer.now a.used a.wanted c.if-room-used.false (sym c.plan_recode.ensures ∙ (c.in_ok-plan.was ∙ ap Ok c.in-Stays.is)) in
    (m.0, c.put_nothing.ensures ∙ m.1)

pub returns-in-Marks : goal.returns-in-Marks
returns-in-Marks c =
    let a = c.args in
    let m = marks-made a.buffer.now a.used a.wanted c.if-room-used.false _ (sym c.plan_recode.ensures ∙ (c.in_ok-plan.was ∙ ap Ok c.in-Marks.is)) in
    (m.0, c.put_mark.ensures ∙ m.1)

pub returns-in-Recodes : goal.returns-in-Recodes
returns-in-Recodes c =
    let a = c.args in
    let m = recodes-made a.buffer.now a.used a.wanted c.if-room-used.false _ _ (sym c.plan_recode.ensures ∙ (c.in_ok-plan.was ∙ ap Ok c.in-Recodes.is)) in
    let into = ap (λ (t : List ℕ). zeroed_after a.used (remarked c.in-Recodes.place a.wanted (mapped_front t a.used a.buffer.now))) c.table_into-table.ensures in
    (m.0, c.put_recoded.ensures ∙ (into ∙ m.1))

pub returns-in-Gains : goal.returns-in-Gains
returns-in-Gains c =
    let a = c.args in
    let m = gains-made a.buffer.now a.used a.wanted c.if-room-used.false _ (sym c.plan_recode.ensures ∙ (c.in_ok-plan.was ∙ ap Ok c.in-Gains.is)) in
    let into = ap (λ (t : List ℕ). with_line a.wanted a.used (mapped_front t a.used a.buffer.now)) c.table_into-table.ensures in
    (m.0, c.put_gained.ensures ∙ (into ∙ m.1))
