-- 16, Missing: "required label absent", at set level, in groups, after names, and on a condition.
-- `has` says which labels stand at set level, or in the group in question.
use Rattle.std.specs.Prelude.{Bool, false, cond, not, ◌&&◌, ◌||◌, List, [], ◌∷◌, ◌++◌, ℕ, ◌+◌, leb, eqb}
use Rattle.meaning.specs.declared.Row.{Row}
use Rattle.meaning.specs.Field.{elem}
use Rattle.meaning.specs.Refusals.{Fault, at_line, ask, missing}
use Rattle.meaning.specs.Tables.{set_level, is_pair_label, row_label, find}
use Rattle.meaning.specs.Groups.{State, first, no_header, role, stays, next, after}

-- ---- which labels are required

-- "8437 is required in a group that has 8438, and any other member marked m with a condition is required likewise": 8421 if the group has 8420, 8461 or 8462, whatever
-- their contents are (B12, B13)
unfoldable pub on_condition : ℕ → (ℕ → Bool) → Bool
on_condition l has = cond (eqb l 8421) (has 8420 || (has 8461 || has 8462)) (cond (eqb l 8437) (has 8438) false)

unfoldable pub needed : Row → (ℕ → Bool) → Bool
needed r has = r.required || on_condition r.label has

-- the rows that stand under h: a header's or name's label, or set level. Here and below `let rest = .. in` names what the shorter list gives; it is the same as to write it in its
-- place, but an example computes it only if it is needed.
unfoldable pub rows_under : List Row → ℕ → List Row
rows_under [] h = []
rows_under (r ∷ rs) h = let rest = rows_under rs h in cond (eqb r.under (row_label h)) (r ∷ rest) rest

-- "lowest label first"
unfoldable pub insert : Row → List Row → List Row
insert r [] = r ∷ []
insert r (x ∷ xs) = let rest = insert r xs in cond (leb r.label x.label) (r ∷ x ∷ xs) (x ∷ rest)

unfoldable pub ascending : List Row → List Row
ascending [] = []
ascending (r ∷ rs) = insert r (ascending rs)

-- ---- which of them are missing

-- "for 16 that is the missing one": after a name the label one higher (B19)
unfoldable pub missing_label : ℕ → ℕ → ℕ
missing_label h l = cond (is_pair_label h) (h + 1) l

-- which of these rows are needed and not there. The rows stand under h, whose line has k lines before it. `ask` adds the fault if its test fails, so the test is: not (needed and
-- not there). For example a group 8410, 8420, 8438 lacks 8421 (needed with 8420) and 8437 (needed with 8438), in this order, the lowest label first.
unfoldable pub lacking_of : List Row → ℕ → ℕ → (ℕ → Bool) → List Fault
lacking_of [] h k has = []
lacking_of (r ∷ rs) h k has = ask (not (needed r has && not (has r.label))) (at_line missing k (missing_label h r.label)) ++ lacking_of rs h k has

unfoldable pub lacking : List Row → ℕ → ℕ → (ℕ → Bool) → List Fault
lacking rs h k has = lacking_of (ascending (rows_under rs h)) h k has

-- which labels are among ls
abbrev pub among : List ℕ → ℕ → Bool
among ls l = elem l ls

-- what the open group lacks when it ends, a name its odd label; "place .. the header's or name's line" (B19). After a line like 3000, which no row stands under, nothing.
unfoldable pub open_lacking : List Row → State → List Fault
open_lacking rs st = cond (eqb st.header no_header) [] (lacking rs st.header st.line (among st.members))

-- "groups and pairs in order": what each lacks is found where it ends, so they come in the order of their headers and names (B20)
unfoldable pub groups_lacking : List Row → State → ℕ → List ℕ → List Fault
groups_lacking rs st k [] = open_lacking rs st
groups_lacking rs st k (l ∷ ls) =
    cond (stays (role (find rs l) st.header l)) [] (open_lacking rs st)
    ++ groups_lacking rs (next (role (find rs l) st.header l) st k l) (k + 1) ls

-- "set level before groups and pairs in order, lowest label first, place 0 for the set and the header's or name's line else"
unfoldable pub missing_faults : List Row → List ℕ → List Fault
missing_faults rs ls = lacking rs set_level 0 (among (after rs first 0 ls).top) ++ groups_lacking rs first 0 ls
