-- `put_entry`: the four numbers are the entry.
use native.Mathlib.Omega.{arith}
use Rattle.day_index.proofs.PutEntryLaws.{part-put}
use Rattle.day_index.proofs.put_entry.Goals as goal

pub returns : goal.returns
returns c = part-put c.args.index.now _ _ c.args.to _ c.copy_from_slice.ensures.after (omega arith)
