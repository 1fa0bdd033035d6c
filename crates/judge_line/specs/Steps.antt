-- One line's step as the code walks it, with the rows that were seen as flags. proofs/StepMeaning ties it to the rules of `meaning`.
use Rattle.std.specs.Prelude.{Bool, true, false, cond, not, ◌≡◌, List, ℕ, zero, suc, ◌-◌, get_or, set, take, drop, eqb, Ok, Err, Result}
use Rattle.meaning.specs.declared.Kind.{Kind}
use Rattle.meaning.specs.declared.Refusal.{Refusal}
use Rattle.meaning.specs.declared.Row.{Row}
use Rattle.meaning.specs.declared.SetType.{SetType}
use Rattle.meaning.specs.Refusals.{not_in_set, stray, repeated, bad_content, other_version}
use Rattle.meaning.specs.Kinds.{is0210, of_kind}
use Rattle.meaning.specs.FieldTable.{fits_label}
use Rattle.meaning.specs.Tables.{table, row_label, is_pair_label, set_level}
use Rattle.meaning.specs.Groups.{belongs, no_header, names_row}
use Rattle.table_find.specs.LookUp.{Found, At, NoRow, find_from}
use Rattle.judge_missing.specs.declared.State.{State}
use Rattle.judge_missing.specs.Lacks.{Flagged, no_flags, first_lack, flagged_of, told}

-- the row of a label, with its number
abbrev pub row_of : SetType → ℕ → Found
row_of settype l = find_from (table settype) (row_label l)

-- ---- 11 to 15 of one line, 0 if none of them is given

-- how the code answers such a number
abbrev pub refused_by : ℕ → Result Unit ℕ
refused_by zero = Ok tt
refused_by (suc n) = Err (suc n)

unfoldable pub repeated_no : Bool → Bool → ℕ
repeated_no many seen = cond many 0 (cond seen repeated 0)

-- 12 and 13 of row number i
unfoldable pub place_no : ℕ → Row → ℕ → List Bool → List Bool → ℕ → ℕ
place_no i r header members top l =
    cond (eqb r.under set_level) (repeated_no r.many (get_or top i false)) (cond (belongs r header l) (repeated_no r.many (get_or members i false)) stray)

unfoldable pub label_no : Found → Flagged → ℕ → ℕ
label_no NoRow st l = not_in_set
label_no (At i r) st l = place_no i r st.header st.members st.top l

-- the bytes from one offset to another
abbrev pub between : List ℕ → ℕ → ℕ → List ℕ
between s from end = take (end - from) (drop from s)

unfoldable pub version_no : ℕ → List ℕ → ℕ
version_no l c = cond (eqb l 9218) (cond (is0210 c) 0 other_version) 0

-- of a content whose length fits, by the kind that is asked
unfoldable pub fit_no : Kind → ℕ → List ℕ → ℕ
fit_no kind l c = cond (of_kind kind c) (version_no l c) bad_content

unfoldable pub content_no : ℕ → List ℕ → ℕ
content_no l c = cond (fits_label l c) (version_no l c) bad_content

unfoldable pub line_no : Found → Flagged → ℕ → List ℕ → ℕ
line_no o st l c = cond (eqb (label_no o st l) 0) (content_no l c) (label_no o st l)

-- ---- what is open and seen after a line that is not refused

unfoldable pub next_flagged : Found → Flagged → ℕ → ℕ → Flagged
next_flagged NoRow st at l = st
next_flagged (At i r) st at l =
    cond (eqb r.under set_level) (record { header = l; place = at; members = no_flags; top = set st.top i true })
    (record { header = cond (is_pair_label l) no_header st.header; place = st.place; members = set st.members i true; top = st.top })

-- it stays in the open group
unfoldable pub stays_in : Found → Bool
stays_in NoRow = false
stays_in (At i r) = not (eqb r.under set_level)

abbrev pub lack_then : Bool → SetType → Flagged → Refusal → Refusal
lack_then stays settype st lack = cond stays lack (first_lack settype st.header st.place st.members lack)

-- what is open and seen after a set-level line, and after a member whose row stands under a label, as the code holds it
abbrev pub IsOpened : SetType → ℕ → ℕ → ℕ → State → State → Type 0
IsOpened settype at l i x y =
    (flagged_of y ≡ record { header = l; place = at; members = no_flags; top = set x.top i true })
    × (told y.lack ≡ first_lack settype x.header x.place x.members (told x.lack))

abbrev pub IsJoined : ℕ → ℕ → State → State → Type 0
IsJoined under i x y =
    (flagged_of y ≡ record { header = cond (eqb under names_row) no_header x.header; place = x.place; members = set x.members i true; top = x.top })
    × (y.lack ≡ x.lack)

-- what a line's step and the state after it say: the number that refuses it, and if there is none what is open and seen next and the first group's lack
pub record Stepped (o : Found) (settype : SetType) (x : State) (at l : ℕ) (c : List ℕ) (r : Result Unit ℕ) (y : State) : Type 0 where
  pub number : r ≡ refused_by (line_no o (flagged_of x) l c)
  pub flagged-so : r ≡ Ok tt → flagged_of y ≡ next_flagged o (flagged_of x) at l
  pub lack-so : r ≡ Ok tt → told y.lack ≡ lack_then (stays_in o) settype (flagged_of x) (told x.lack)
