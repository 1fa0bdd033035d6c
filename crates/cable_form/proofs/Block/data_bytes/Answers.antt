-- `data_bytes`: between lead and tail.
use native.Mathlib.Omega.{arith}
use Rattle.cable_form.proofs.FormLaws.{formed}
use Rattle.cable_form.proofs.Block.data_bytes.Goals as goal

pub overflow_sub-end : goal.overflow_sub-end
overflow_sub-end c = omega (arith, (formed _ c.args.self.now.good_form).least)

pub slice_bounds-result-count : goal.slice_bounds-result-count
slice_bounds-result-count c = omega (arith, (formed _ c.args.self.now.good_form).least)

pub slice_bounds-result-start : goal.slice_bounds-result-start
slice_bounds-result-start c = omega (arith, (formed _ c.args.self.now.good_form).least)
