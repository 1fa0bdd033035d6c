-- The walk of `put_entries` over a set's bytes, line by line: the entries of the lines, without that of line 2.
-- `listed-are` in proofs/ListLaws ties the walk of an accepted set to its list.
use Rattle.std.specs.Prelude.{◌≡◌, cond, List, [], ◌++◌, ℕ, zero, suc, ◌+◌, eqb, Ok, Err}
use Rattle.meaning.specs.Field.{field}
use Rattle.meaning.specs.Entries.{entry_then}
use Rattle.line_read.specs.Line.{line_at, line_content, LineRead, a_line}

-- the n lines from an offset on are all read
unfoldable pub AllRead : List ℕ → ℕ → ℕ → Type 0
AllRead s at zero = Unit
AllRead s at (suc n) = (l : ℕ) × (m : ℕ) × (line_at s at ≡ a_line l m) × AllRead s (at + m) n

-- the entry of the line that has k lines before it; "8100 has no entry", and it stands in line 2
unfoldable pub line_entry : ℕ → ℕ → List ℕ → List ℕ
line_entry k l c = cond (eqb k 1) [] (entry_then (field l c) [])

-- by what was read, nothing if no line is read
abbrev pub listed_by : LineRead → (ℕ → ℕ → List ℕ) → List ℕ
listed_by (Ok line) f = f line.label line.size
listed_by (Err r) f = []

-- the entries of the n lines from an offset on, with k lines before them
unfoldable pub listed_from : List ℕ → ℕ → ℕ → ℕ → List ℕ
listed_from s at k zero = []
listed_from s at k (suc n) = listed_by (line_at s at) (λ l m. let rest = listed_from s (at + m) (k + 1) n in line_entry k l (line_content s at m) ++ rest)
