-- "A view shows a content as it would stand": a set, a sheet of pending corrections, and the number of a line.
-- "entries as above, kind is the line number, the last for a line counts".
use Rattle.std.specs.Prelude.{cond, List, [], ◌∷◌, ◌++◌, ℕ, pred, ◌+◌, length, take, drop, eqb, Err, Ok}
use Rattle.std.proofs.Math.Option.{Option, none, some}
use Rattle.meaning.specs.declared.Part.{Part}
use Rattle.meaning.specs.Field.{Field, content_at_line, is_nil}
use Rattle.meaning.specs.Refusals.{Fault, at_line, ask, Reply, refused, done, then_to, verdict, bad_list}
use Rattle.meaning.specs.Pieces.{Form, Parsed, pieces}
use Rattle.meaning.specs.Lines.{line_lead, offset}
use Rattle.meaning.specs.Entries.{entry_whole, entry_label, entry_content, entry_field, entry_width, entry_lead, entry_then}
use Rattle.meaning.specs.Reading.{read, in_set}
use Rattle.meaning.specs.Corrections.{alone_faults, line_number_faults, change_faults}
use Rattle.meaning.specs.Results.{Viewed, of_set, of_sheet}
use Rattle.meaning.specs.declared.Shown.TheVariants.{Set, Sheet}

-- ---- the sheet

-- "then each sheet entry by 21 (cut only), 19, 20, 6, 14", and 24 after 14
unfoldable pub sheet_entry_faults : List Field → List ℕ → List Fault
sheet_entry_faults fs s = ask (entry_whole s) (at_line bad_list 0 0) ++ change_faults fs (entry_label s) (entry_content s)

-- the entries of a sheet for the lines fs; "places in the sheet (the entry's first byte, for 6 the byte)", for 24 the byte too
abbrev pub sheet_form : List Field → Form
sheet_form fs = record { faults = sheet_entry_faults fs; piece = entry_field; width = entry_width; over = is_nil; lead = entry_lead; put = entry_then }

-- a sheet has no limit of its own, and never more entries than bytes; "a sheet may be empty"; every entry is judged, even if a later one for its line counts (B40)
abbrev pub sheet : List Field → List ℕ → Reply Parsed
sheet fs h = pieces (sheet_form fs) (length h) 0 h

-- ---- what is shown

-- a pending content, and its place in the sheet
pub record Pending : Type 0 where
  pub place : ℕ
  pub content : List ℕ

-- "the last for a line counts": the last entry for line n from offset `at` of the sheet on, else `found`
unfoldable pub latest : ℕ → ℕ → List Field → Option Pending → Option Pending
latest n at [] found = found
latest n at (e ∷ es) found =
    latest n (at + (entry_lead + length e.content)) es (cond (eqb e.label n) (some (record { place = at + entry_lead; content = e.content })) found)

abbrev pub part : ℕ → ℕ → Part
part p n = record { place = p; length = n }

-- "the answer is the part of the sheet if the line has an entry there, else the part of the set, with a flag for which. Line 2 is shown as the set has it"
abbrev pub shown_part : List Field → ℕ → Option Pending → Viewed
shown_part fs n (some q) = of_sheet (part q.place (length q.content))
shown_part fs n none = of_set (part (offset fs (pred n) + line_lead) (length (content_at_line fs (pred n))))

-- "The set alone must fill its slice (18). Order: set, 18, the asked line (19), then each sheet entry"
unfoldable pub viewing : List ℕ → List ℕ → ℕ → Reply Viewed
viewing s h n =
    then_to (read s) (λ d.
    then_to (verdict (in_set d.fields) (alone_faults d ++ line_number_faults d.fields n) d.fields) (λ fs.
    then_to (sheet fs h) (λ e. done (shown_part fs n (latest n 0 e.fields none)))))

abbrev pub view_answer : Reply Viewed → Viewed
view_answer (refused r) = Err r
view_answer (done v) = v

unfoldable pub viewed : List ℕ → List ℕ → ℕ → Viewed
viewed s h n = view_answer (viewing s h n)

-- ---- the part itself

-- the bytes of a part
abbrev pub part_of : Part → List ℕ → List ℕ
part_of q s = take q.length (drop q.place s)

-- "A refusal comes with an empty part of the set, flagged as the set's."
abbrev pub shown_bytes : List ℕ → List ℕ → Viewed → List ℕ
shown_bytes s h (Ok (Sheet q)) = part_of q h
shown_bytes s h (Ok (Set q)) = part_of q s
shown_bytes s h (Err r) = []

-- "Reply and part may be answered by two calls on the same input."
unfoldable pub view : List ℕ → List ℕ → ℕ → List ℕ
view s h n = shown_bytes s h (viewed s h n)
