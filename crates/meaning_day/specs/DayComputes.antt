-- `unfolding day_computes` opens every definition of the day file at once, for an example that is proved by computation; those of sets are opened by `computes` of `meaning`.
use Rattle.meaning_day.specs.Days.{lines_before, day_entry, sets_from, build, append, matches, found, lookup}
use Rattle.meaning_day.specs.DayCalls.{entries_in}

unfoldable pub day_computes : Unit {0}
unfolding lines_before day_entry sets_from build append matches found lookup entries_in
day_computes = tt
