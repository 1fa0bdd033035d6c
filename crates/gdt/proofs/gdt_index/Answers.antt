-- Each turn is a law of the loop, and the plan says what the loop leaves: `fills`.
use mathlib.Core.Path.{◌≡◌, sym, ap, subst, ◌∙◌}
use mathlib.Core.List.{List, ◌++◌}
use native.Mathlib.Omega.{arith}
use lib.ListN.{length, drop, length-take}
use Rattle.meaning.specs.declared.Entry.{Entry}
use Rattle.face_replies.specs.Replies.{made_reply}
use Rattle.gdt.proofs.FillingLaws.{filled-next, filled-all, Fills, fills, front-part, left-as, nothing-left}
use Rattle.gdt.proofs.gdt_index.Goals as goal
use Rattle.gdt.proofs.gdt_index.Goals.{in-Ok+else-loop-entry-test, in_default}
use Rattle.std.specs.Prelude.{Err, Ok}

pub loop-entry-preserved : goal.loop-entry-preserved
loop-entry-preserved c =
    let l = c.loop-entry in
    filled-next c.args.set.now l.entry-items l.entry-index l.walk l.invariant _ c.next_entry-next.ensures (omega arith)

pub returns : goal.returns
returns c =
    let s = c.args.set.now in
    let d = c.args.out.now in
    let f : Fills s d c.plan_of-plan.result = subst (Fills s d) (sym c.plan_of-plan.ensures) (fills s d) in
    elim c.match-plan.branch [
      | in-Ok+else-loop-entry-test w ↦
          let n = w.in-Ok.count in
          let l = w.loop-entry in
          let k : Fills s d (Ok n) = subst (Fills s d) w.in-Ok.is f in
          let all : length l.entry-items ≡ n = omega (arith, length-take n d, k.within) in
          let last : l.entry-index ≡ n = omega (arith, all) in
          let stored = filled-all s l.entry-items l.entry-index l.walk l.invariant n last all in
          let written = ap (λ (es : List Entry). es ++ drop n d) stored ∙ k.leaves in
          (c.into.ensures ∙ ap made_reply (w.plan-is ∙ k.answers), left-as _ _ (l.entry-items ++ drop n d) _ w.out-is written (search (arith, front-part)))
      | in_default w ↦
          let k : Fills s d (Err w.in_default.field-0) = subst (Fills s d) w.in_default.is f in
          (c.into.ensures ∙ ap made_reply (w.plan-is ∙ f.answers), w.out-is ∙ nothing-left s d _ k)
    ]
