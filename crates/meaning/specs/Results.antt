-- What the calls answer: what was asked for, or the first refusal in the paper's order. A call that writes to a lent buffer changes nothing if it refuses.
use Rattle.std.specs.Prelude.{ℕ, Option, Result, Ok}
use Rattle.meaning.specs.declared.SetType.{SetType}
use Rattle.meaning.specs.declared.Shape.{Shape}
use Rattle.meaning.specs.declared.Refusal.{Refusal}
use Rattle.meaning.specs.declared.Part.{Part}
use Rattle.meaning.specs.declared.Shown.{Shown}
use Rattle.meaning.specs.declared.Shown.TheVariants.{Sheet, Set}

-- the set type that a number names, or none of the five
abbrev pub Known : Type 0
Known = Option SetType

-- what judging a set answers: what the set at the front is, which keeps every rule; bytes after it were not judged
abbrev pub Judged : Type 0
Judged = Result Shape Refusal

-- what index, list, writer, correction and the calls of a day file answer: so many entries, bytes or numbers stand in the lent buffer
abbrev pub Made : Type 0
Made = Result ℕ Refusal

-- what a view answers: which slice holds the content that is shown, and where
abbrev pub Viewed : Type 0
Viewed = Result Shown Refusal

-- a part of the sheet, and a part of the set
abbrev pub of_sheet : Part → Viewed
of_sheet q = Ok (Sheet q)

abbrev pub of_set : Part → Viewed
of_set q = Ok (Set q)
