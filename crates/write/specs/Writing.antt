-- The walk of `write` over a list's bytes, entry by entry: the lines that it puts.
-- What they mean is in proofs/WriteLaws.
use Rattle.std.specs.Prelude.{List, [], ◌++◌, ℕ}
use Rattle.entry_read.specs.Head.{list_content}
use Rattle.entry_read.specs.HeadWalk.{entries_left}
use Rattle.write_lines.specs.EntryLines.{entry_lines}

-- the lines of an entry, and then those of the entries after it
abbrev pub lines_then : List ℕ → List ℕ → ℕ → ℕ → ℕ → List ℕ → List ℕ
lines_then l sum at label n rest = entry_lines at label (list_content l at n) sum ++ rest

-- the lines of all entries from an offset on
abbrev pub lines_left : List ℕ → List ℕ → ℕ → List ℕ
lines_left l sum at = entries_left [] (lines_then l sum) l at
