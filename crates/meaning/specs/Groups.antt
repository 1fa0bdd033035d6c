-- "Groups": what each line is in its set, by the labels before it: a line at set level, a member of the open group, or neither.
-- One state serves 11, 12 and 13, the missing labels (Missing) and the headers of the index (Index).
use Rattle.std.specs.Prelude.{Bool, true, false, cond, not, ◌||◌, List, [], ◌∷◌, ℕ, ◌+◌, eqb}
use Rattle.std.proofs.Math.Option.{Option, none, some}
use Rattle.meaning.specs.declared.Row.{Row}
use Rattle.meaning.specs.Field.{elem}
use Rattle.meaning.specs.Refusals.{Fault, at_line, ask, not_in_set, stray, repeated}
use Rattle.meaning.specs.Tables.{set_level, is_pair_label, find}

-- What counts of the lines so far. For example after the lines 8000, 8100, 9218, 3000, 8402, 8410, 8411: header 8410, line 5 (five lines stand before that 8410), members 8411,
-- top all the others. An 8420 then joins the members; a 6200 is the header after it, with no members; a 6303 is Stray and closes the group, as a label without a row does.
pub record State : Type 0 where
  -- the label of the last line at set level, whatever it is, until a line closes what it opened; else 0. After 3000 it is 3000, which no row stands under: so no member follows
  pub header : ℕ
  -- how many lines stand before that line
  pub line : ℕ
  -- its members so far, and what stands at set level so far, by the labels of their rows
  pub members : List ℕ
  pub top : List ℕ

-- no header is open: no line at set level so far, or what it opened is closed. No row has label 0, and those under 0 stand at set level, which is asked first
abbrev pub no_header : ℕ
no_header = 0

-- before the first line
abbrev pub first : State
first = record { header = no_header; line = 0; members = []; top = [] }

-- ---- the role of a line

pub data Role : Type 0 where
  -- 11: "label not in the set's table"
  unknown : Role
  -- 12: "member outside its group, or odd label not after its name"
  strayed : Role
  -- headers and names among them
  at_set_level : Row → Role
  -- a member of the open group, or the odd label after its name
  member : Row → Role

-- the row under which the table puts the odd labels
abbrev pub names_row : ℕ
names_row = 6330

-- "Even labels 6330 to 6398 are names; the next line must be the label one higher." Any other member stands under the header that its row names. So 6345 belongs after 6344
-- alone, though the rows of all odd labels stand under 6330; 8420 belongs while the header is 8410.
unfoldable pub belongs : Row → ℕ → ℕ → Bool
belongs r header l = cond (eqb r.under names_row) (eqb (header + 1) l) (eqb r.under header)

unfoldable pub role_of : Row → ℕ → ℕ → Role
role_of r header l = cond (eqb r.under set_level) (at_set_level r) (cond (belongs r header l) (member r) strayed)

-- "The role of a label depends on the set type", by its row, and on the open header.
unfoldable pub role : Option Row → ℕ → ℕ → Role
role none header l = unknown
role (some r) header l = role_of r header l

-- whether a line of that role stays in the open group; else it ends it
unfoldable pub stays : Role → Bool
stays unknown = false
stays strayed = false
stays (at_set_level r) = false
stays (member r) = true

-- ---- from line to line: the state after the line with label l, which has k lines before it

-- after any line at set level: "every 8410 opens a group", "every 6302 opens a group", a name its pair; another one opens what no row stands under, and so ends what was open
abbrev pub opened : State → Row → ℕ → ℕ → State
opened st r k l = record { header = l; line = k; members = []; top = r.label ∷ st.top }

-- "An odd label 6331 to 6399 stands nowhere else": nothing follows it in its pair
abbrev pub joined : State → Row → ℕ → State
joined st r l = record { header = cond (is_pair_label l) no_header st.header; line = st.line; members = r.label ∷ st.members; top = st.top }

-- "A group ends at the first line that is not a member of its header."
abbrev pub closed : State → State
closed st = record { header = no_header; line = 0; members = []; top = st.top }

unfoldable pub next : Role → State → ℕ → ℕ → State
next unknown st k l = closed st
next strayed st k l = closed st
next (at_set_level r) st k l = opened st r k l
next (member r) st k l = joined st r l

-- the state after all lines with these labels, the first of which has k lines before it
unfoldable pub after : List Row → State → ℕ → List ℕ → State
after rs st k [] = st
after rs st k (l ∷ ls) = after rs (next (role (find rs l) st.header l) st k l) (k + 1) ls

-- ---- 11, 12, 13

-- 13, Repeated: "single label again in the set or its group"; "A member repeats inside a group where the table's occurrence is n"
abbrev pub repeated_faults : Row → List ℕ → ℕ → ℕ → List Fault
repeated_faults r seen k l = ask (r.many || not (elem r.label seen)) (at_line repeated k l)

-- 11, NotInSet; 12, Stray; 13
unfoldable pub label_faults : Role → State → ℕ → ℕ → List Fault
label_faults unknown st k l = at_line not_in_set k l ∷ []
label_faults strayed st k l = at_line stray k l ∷ []
label_faults (at_set_level r) st k l = repeated_faults r st.top k l
label_faults (member r) st k l = repeated_faults r st.members k l
