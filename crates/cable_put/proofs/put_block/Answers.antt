-- `put_block`: zeros after what is put.
use Rattle.meaning_cable.specs.Receiving.{put_by}
use Rattle.cable_put.proofs.BlockPutLaws.{zeros-after}
use Rattle.cable_put.proofs.put_block.Goals as goal

pub returns : goal.returns
returns c =
    let a = c.args in
    let p = c.put_by-used.ensures in
    zeros-after a.out.now _ _ (put_by a.label a.bytes.now) a.at _ c.requires p.1 p.0 c.clear.ensures
