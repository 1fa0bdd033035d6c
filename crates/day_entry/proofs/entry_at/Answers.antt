-- `entry_at`: what the three walks say.
use Rattle.day_entry.proofs.ToldEntryLaws.{entry-so}
use Rattle.day_entry.proofs.entry_at.Goals as goal

pub returns : goal.returns
returns c =
    entry-so c.args.file.now c.args.at _ _ _ c.number_in-length.ensures c.number_in-settype.ensures c.first_place-place.ensures.0
