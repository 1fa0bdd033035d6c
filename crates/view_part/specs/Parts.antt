-- The part that is shown after one more entry of a sheet, and that a part lies within its slice.
use Rattle.std.specs.Prelude.{cond, List, ℕ, ◌+◌, ◌≤◌, length, eqb, Err, Ok}
use Rattle.meaning.specs.declared.Part.{Part}
use Rattle.meaning.specs.Results.{Viewed}
use Rattle.meaning.specs.declared.Shown.TheVariants.{Set, Sheet}

-- "the last for a line counts": the part p of an entry for line k, if line n is asked for
unfoldable pub newer : Viewed → Part → ℕ → ℕ → Viewed
newer v p k n = cond (eqb k n) (Ok (Sheet p)) v

-- the same of the offsets of entries: of the one at `at`, if the last one before it for line n stands at `last`
unfoldable pub later : ℕ → ℕ → ℕ → ℕ → ℕ
later last at k n = cond (eqb k n) at last

-- the part of the set s or of the sheet h that is shown lies within it
unfoldable pub Within : List ℕ → List ℕ → Viewed → Type 0
Within s h (Ok (Sheet q)) = q.place + q.length ≤ length h
Within s h (Ok (Set q)) = q.place + q.length ≤ length s
Within s h (Err r) = Unit
