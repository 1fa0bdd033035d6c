-- `put_block`: the parts put one after the other.
use mathlib.Core.Path.{sym}
use native.Mathlib.Omega.{arith}
use Rattle.meaning_cable.specs.Blocks.{label_digit}
use Rattle.cable_data.specs.Carried.{data_from}
use Rattle.cable_data.proofs.CarriedLaws.{length-data}
use Rattle.cable_frame.proofs.FramedLaws.{block-put}
use Rattle.cable_frame.proofs.put_block.Goals as goal

pub returns : goal.returns
returns c =
    let a = c.args in
    block-put a.count (label_digit a.label) (data_from a.set.now a.from a.n) a.out.now _ _ _ _ a.n (sym (length-data a.set.now a.from a.n))
    (omega (arith, c.requires.numbers)) c.put_lead.ensures c.put_data.ensures c.put_tail.ensures c.clear.ensures
