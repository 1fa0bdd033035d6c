-- The index: "one entry for each line holds label, place of its content, its length, and the header's line number, or 0".
use Rattle.std.specs.Prelude.{cond, List, [], ◌∷◌, ℕ, ◌+◌, length, leb}
use Rattle.meaning.specs.declared.Entry.{Entry}
use Rattle.meaning.specs.Field.{Field}
use Rattle.meaning.specs.Lines.{line_size, line_lead}
use Rattle.meaning.specs.Refusals.{Reply, then_to, with_room}
use Rattle.meaning.specs.Groups.{State, first, Role, next, stays}
use Rattle.meaning.specs.Rules.{Profile, profile, role_in}
use Rattle.meaning.specs.Reading.{read}

-- "the header's line number, or 0 outside groups and pairs and for a header or name itself. A name line stands as header of its pair."
unfoldable pub header_line : Role → State → ℕ
header_line o st = cond (stays o) (st.line + 1) 0

-- the entries of the lines from offset `at` on, the first of which has k lines before it
unfoldable pub entries_from : Profile → State → ℕ → ℕ → List Field → List Entry
entries_from p st k at [] = []
entries_from p st k at (f ∷ fs) =
    record { label = f.label; place = at + line_lead; length = length f.content; header = header_line (role_in p st f) st }
    ∷ entries_from p (next (role_in p st f) st k f.label) (k + 1) (at + line_size f) fs

unfoldable pub index_of : List Field → List Entry
index_of fs = entries_from (profile fs) first 0 0 fs

-- "Index and list refuse as the set does, then by 22": the index of the set at the front of s, for `room` entries; other sets may follow (B35)
unfoldable pub index : List ℕ → ℕ → Reply (List Entry)
index s room = then_to (read s) (λ d. with_room (leb (length d.fields) room) (length d.fields) (index_of d.fields))
