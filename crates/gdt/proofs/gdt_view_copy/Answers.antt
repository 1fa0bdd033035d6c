-- `gdt_view_copy`: the part that `view` answers, copied if there is room for all of it.
use Rattle.gdt.proofs.CopyLaws.{copy-none, copy-all}
use Rattle.gdt.proofs.gdt_view_copy.Goals as goal

pub returns-then-out-need : goal.returns-then-out-need
returns-then-out-need c =
    copy-none _ _ c.args.out.now c.view-part.ensures c.if-out-need.true

pub returns : goal.returns
returns c =
    copy-all _ _ c.args.out.now _ c.view-part.ensures c.if-out-need.false c.copy_front.ensures
