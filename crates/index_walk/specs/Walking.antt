-- The walk of `next_entry` over a set's bytes, line by line: offsets and counts in the place of fields, and labels alone in the place of roles and tables.
-- `entries-are` in proofs/EntryWalk ties the walk of an accepted set to its index.
use Rattle.std.specs.Prelude.{Bool, cond, ◌&&◌, ◌||◌, List, [], ◌∷◌, ℕ, zero, suc, ◌+◌, ◌%◌, leb, eqb, length}
use Rattle.meaning.specs.declared.Entry.{Entry}
use Rattle.meaning.specs.Limits.{max_lines}
use Rattle.meaning.specs.Lines.{line_lead, line_end}
use Rattle.meaning.specs.Tables.{is_pair_label}
use Rattle.line_read.specs.Told.{told_length, told_label}
use Rattle.index_walk.specs.declared.Walk.{Walk}
use Rattle.index_walk.specs.declared.NextEntry.{NextEntry}

-- before the first line of a set
abbrev pub walk_start : Walk
walk_start = record { at = 0; lines = 0; header = 0 }

-- one line more; "A set has at most 512 lines", so the count goes no further
unfoldable pub counted : ℕ → ℕ
counted n = cond (leb max_lines n) n (n + 1)

-- ---- headers and members, by their labels alone

-- "every 8410 opens a group", "every 6302 opens a group", "Even labels 6330 to 6398 are names"
unfoldable pub is_header : ℕ → Bool
is_header l = eqb l 8410 || (eqb l 6302 || (is_pair_label l && eqb (l % 2) 0))

-- "8411 to 8480", "6303, 6304 and 6305", and the odd labels 6331 to 6399
unfoldable pub is_member : ℕ → Bool
is_member l = (leb 8411 l && leb l 8480) || ((leb 6303 l && leb l 6305) || (is_pair_label l && eqb (l % 2) 1))

-- the header's line number of a line with label l, with `last` that of the last header before it: a member has that one, any other line has none
unfoldable pub header_of : ℕ → ℕ → ℕ
header_of l last = cond (is_member l) last 0

-- the number of the last header's line after the line with label l and number n. In a set without headers it stays 0, so that 8432 and 8439, which
-- stand at set level in 6311, have no header there
unfoldable pub last_after : ℕ → ℕ → ℕ → ℕ
last_after l n last = cond (is_header l) n last

-- ---- from line to line

-- the line at the walk, with label l and n bytes of content, and the walk after it
abbrev pub entry_of_line : Walk → ℕ → ℕ → NextEntry
entry_of_line w l n = record {
  entry = record { label = l; place = w.at + line_lead; length = n; header = header_of l w.header };
  walk = record { at = w.at + (n + (line_lead + line_end)); lines = counted w.lines; header = last_after l (counted w.lines) w.header };
}

-- the entry if there is no line, and a walk that starts again
abbrev pub no_entry : NextEntry
no_entry = record { entry = record { label = 0; place = 0; length = 0; header = 0 }; walk = walk_start }

-- the entry of the line at the walk, as its bytes give it, and the walk after that line
unfoldable pub next_entry : List ℕ → Walk → NextEntry
next_entry s w = cond (leb (w.at + line_lead) (length s)) (entry_of_line w (told_label s w.at) (told_length s w.at)) no_entry

-- the n entries from a walk on
unfoldable pub walked_entries : List ℕ → Walk → ℕ → List Entry
walked_entries s w zero = []
walked_entries s w (suc n) = let then = next_entry s w in then.entry ∷ walked_entries s then.walk n
