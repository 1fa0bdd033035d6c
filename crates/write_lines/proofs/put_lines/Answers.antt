-- `put_lines`: the line of the entry, and after the first that of the sum.
use native.Mathlib.Omega.{arith}
use lib.ListN.{length}
use Rattle.meaning.specs.Digits.{digits}
use Rattle.meaning.specs.Lists.{sum_digits}
use Rattle.write_lines.proofs.LinePutLaws.{own-fits, second_fits, later-put, first-put}
use Rattle.write_lines.proofs.put_lines.Goals as goal

pub put_line-requires : goal.put_line-requires
put_line-requires c =
    let a = c.args in
    own-fits a.from a.label a.content.now (digits sum_digits a.total) a.to (length a.out.now) c.requires

pub overflow_add-end-2 : goal.overflow_add-end-2
overflow_add-end-2 c =
    let a = c.args in
    omega (
      arith,
      own-fits a.from a.label a.content.now (digits sum_digits a.total) a.to (length a.out.now) c.requires,
      c.ranges,
      c.well_formed,
    )

pub returns-then-from-ne0 : goal.returns-then-from-ne0
returns-then-from-ne0 c =
    let a = c.args in
    later-put a.from a.label a.content.now (digits sum_digits a.total) a.out.now _ a.to c.if-from-ne0.true c.put_line.ensures

pub put_sum-requires : goal.put_sum-requires
put_sum-requires c =
    let a = c.args in
    omega (arith, second_fits a.from a.label a.content.now (digits sum_digits a.total) a.to (length a.out.now) c.if-from-ne0.false c.requires)

pub overflow_add-result : goal.overflow_add-result
overflow_add-result c =
    let a = c.args in
    omega (
      arith,
      second_fits a.from a.label a.content.now (digits sum_digits a.total) a.to (length a.out.now) c.if-from-ne0.false c.requires,
      c.ranges,
      c.well_formed,
    )

pub returns : goal.returns
returns c =
    let a = c.args in
    first-put a.from a.label a.content.now (digits sum_digits a.total) a.out.now _ _ a.to c.if-from-ne0.false c.requires
    c.put_line.ensures c.put_sum.ensures
