-- `part_of_set`: a line of an accepted set lies within the set and has a content.
use mathlib.Core.Path.{◌≡◌, ap}
use Prim.Native.Nat.{◌-◌, pred}
use native.Mathlib.Omega.{arith}
use Rattle.correct_offer.specs.declared.OneLine.{OneLine}
use Rattle.view_sheet.specs.Showing.{set_part}
use Rattle.view_sheet.proofs.SheetWalkLaws.{line-inside}
use Rattle.view_sheet.proofs.part_of_set.Goals as goal

pub overflow_add-result : goal.overflow_add-result
overflow_add-result c =
    let a = c.args in
    let p = c.requires in
    let i = line-inside a.set.now a.shape a.line p.accepted p.line_there.0 p.line_there.1 in
    let e = c.line_after-x.ensures in
    omega (arith, ap (λ (x : OneLine). x.at) e, ap (λ (x : OneLine). x.size) e, i.least, i.within, c.ranges, c.well_formed)

pub overflow_sub-result : goal.overflow_sub-result
overflow_sub-result c =
    let a = c.args in
    let p = c.requires in
    let i = line-inside a.set.now a.shape a.line p.accepted p.line_there.0 p.line_there.1 in
    omega (arith, ap (λ (x : OneLine). x.size) c.line_after-x.ensures, i.least)

pub returns : goal.returns
unfolding set_part
returns c =
    let a = c.args in
    let e : a.line - 1 ≡ pred a.line = omega arith in
    rw (c.line_after-x.ensures, e)
