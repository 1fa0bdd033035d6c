-- `put_entry`: three parts put one after the other.
use Rattle.list.proofs.ListLaws.{entry-put}
use Rattle.list.proofs.put_entry.Goals as goal

pub returns : goal.returns
returns c =
    let a = c.args in
    entry-put a.out.now _ _ _ a.content.now a.label c.requires.2 c.put_two.ensures c.put_two-2.ensures
    c.copy_front.ensures
