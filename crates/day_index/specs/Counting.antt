-- What the loops of this crate have made so far: the sets counted, and the entries still to be put.
use Rattle.std.specs.Prelude.{List, [], ℕ, ◌+◌, length, Err, Ok}
use Rattle.meaning.specs.Refusals.{Reply, refused, done}
use Rattle.meaning_day.specs.declared.DayEntry.{DayEntry}
use Rattle.meaning.specs.Results.{Made}

-- the answer if k sets stand before those that the reply is about
abbrev pub counted_after : ℕ → Reply (List DayEntry) → Made
counted_after k (refused r) = Err r
counted_after k (done es) = Ok (k + length es)

-- the entries that were made, none if the reply is a refusal
abbrev pub listed : Reply (List DayEntry) → List DayEntry
listed (refused r) = []
listed (done es) = es
