-- The lines that one entry of a list is written as.
use Rattle.std.specs.Prelude.{cond, List, [], ◌++◌, ℕ, eqb}
use Rattle.meaning.specs.Field.{field}
use Rattle.meaning.specs.Lines.{line_then}

-- the line of the entry at an offset of the list, and after the first that of 8100
unfoldable pub entry_lines : ℕ → ℕ → List ℕ → List ℕ → List ℕ
entry_lines at l c sum = line_then (field l c) [] ++ cond (eqb at 0) (line_then (field 8100 sum) []) []
