-- `number_in`: by what the bytes write.
use mathlib.Core.Path.{sym, ◌∙◌}
use Rattle.day_entry.proofs.ToldEntryLaws.{number-so}
use Rattle.day_entry.proofs.number_in.Goals as goal

pub returns-in-Some : goal.returns-in-Some
returns-in-Some c =
    number-so _ _ _ _ (sym c.in-Some.is ∙ c.number_at.ensures)

pub returns-in-None : goal.returns-in-None
returns-in-None c =
    number-so _ _ _ _ (sym c.in-None.is ∙ c.number_at.ensures)
