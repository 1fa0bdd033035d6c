-- `part_bytes`: the part lies within its slice.
use mathlib.Core.Path.{ap}
use Rattle.std.specs.Prelude.{Ok}
use native.Mathlib.Omega.{arith}
use Rattle.view_part.proofs.PartLaws.{sheet-ends, bytes-sheet, set-ends, bytes-set}
use Rattle.view_part.proofs.part_bytes.Goals as goal

pub overflow_add-end : goal.overflow_add-end
overflow_add-end c =
    let w = sheet-ends c.args.set.now c.args.sheet.now (Ok c.args.shown) _ (ap Ok c.in-Sheet.is) c.requires in
    omega (arith, w, c.well_formed)

pub slice_bounds-result-end : goal.slice_bounds-result-end
slice_bounds-result-end c =
    sheet-ends c.args.set.now c.args.sheet.now (Ok c.args.shown) _ (ap Ok c.in-Sheet.is) c.requires

pub overflow_add-end-in-Set : goal.overflow_add-end-in-Set
overflow_add-end-in-Set c =
    let w = set-ends c.args.set.now c.args.sheet.now (Ok c.args.shown) _ (ap Ok c.in-Set.is) c.requires in
    omega (arith, w, c.well_formed)

pub slice_bounds-result-end-in-Set : goal.slice_bounds-result-end-in-Set
slice_bounds-result-end-in-Set c =
    set-ends c.args.set.now c.args.sheet.now (Ok c.args.shown) _ (ap Ok c.in-Set.is) c.requires

pub returns-in-Sheet : goal.returns-in-Sheet
returns-in-Sheet c =
    bytes-sheet c.args.set.now c.args.sheet.now (Ok c.args.shown) _ (ap Ok c.in-Sheet.is)

pub returns-in-Set : goal.returns-in-Set
returns-in-Set c =
    bytes-set c.args.set.now c.args.sheet.now (Ok c.args.shown) _ (ap Ok c.in-Set.is)
