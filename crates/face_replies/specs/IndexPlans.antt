-- What an index comes to before its first entry is written: the plan that is made of a judged set and the room for entries.
-- `fills` in crate `gdt` says that a loop over the plan makes what `index_call` says.
use Rattle.std.specs.Prelude.{cond, ℕ, leb, Err, Ok}
use Rattle.meaning.specs.Refusals.{refusal, no_room}
use Rattle.meaning.specs.Results.{Judged, Made}

-- what is planned for a judged set: a refusal, of which nothing is written, or an entry for each line of an accepted set, if there is room
abbrev pub plan_index : Judged → ℕ → Made
plan_index (Err r) room = Err r
plan_index (Ok x) room = cond (leb x.lines room) (Ok x.lines) (Err (refusal no_room x.lines 0))
