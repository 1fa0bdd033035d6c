-- "Numbered replies", 8 to 17, and 24 between 16 and 17, over the lines of a set, in the paper's order.
-- 8 to 16 see three things only: the profile, the labels, and each content by itself. 24 sees what 9206 says and each content by itself, 17 line 2 and all lengths.
use Rattle.std.specs.Prelude.{Bool, true, false, cond, not, ◌&&◌, ◌||◌, List, [], ◌∷◌, ◌++◌, ℕ, ◌+◌, length, take, get_or, eqb, None, Some}
use Rattle.meaning.specs.declared.Row.{Row}
use Rattle.meaning.specs.Limits.{type_of}
use Rattle.meaning.specs.Digits.{digits, number, all_digits}
use Rattle.meaning.specs.Field.{Field, labels, content_at_line}
use Rattle.meaning.specs.Lines.{size, high_bytes}
use Rattle.meaning.specs.Refusals.{Fault, at_line, ask, no_start, unknown_set, no_sum, bad_content, other_version, bad_sum}
use Rattle.meaning.specs.Kinds.{same_bytes, is0210}
use Rattle.meaning.specs.FieldTable.{fits_label}
use Rattle.meaning.specs.Tables.{table, find}
use Rattle.meaning.specs.Groups.{State, first, Role, unknown, strayed, at_set_level, member, role, next, label_faults}
use Rattle.meaning.specs.Missing.{missing_faults}
use Rattle.meaning.specs.Results.{Known}

-- ---- the profile: what the contents of the fixed lines choose

-- the set type that a content of 8000 names: four digits that are the number of one of the five
abbrev pub type_digits : ℕ
type_digits = 4

unfoldable pub type_named : List ℕ → Known
type_named c = cond (eqb (length c) type_digits && all_digits c) (type_of (number c)) None

-- so far the set type alone
pub record Profile : Type 0 where
  pub set_type : Known

unfoldable pub profile : List Field → Profile
profile fs = record { set_type = type_named (content_at_line fs 0) }

-- the rows that a set of this profile is judged by; none if 9 is given
abbrev pub table_of : Known → List Row
table_of (Some t) = table t
table_of None = []

abbrev pub rows_of : Profile → List Row
rows_of p = table_of p.set_type

-- ---- 8, 9, 10

-- the line that has k lines before it is there and has label l
abbrev pub label_is : List Field → ℕ → ℕ → Bool
label_is fs k l = eqb (get_or (labels fs) k 0) l

abbrev pub is_known : Known → Bool
is_known (Some t) = true
is_known None = false

abbrev pub type_known : List Field → Bool
type_known fs = is_known (profile fs).set_type

-- "Line 1 is 8000, line 2 is 8100; the other set-level lines stand in any order."
-- 8, NoStart: "line 1 is not 8000"; 9, UnknownSet: "8000 names none of the five"; 10, NoSum: "line 2 is absent (place: set length) or not 8100"
unfoldable pub start_faults : List Field → List Fault
start_faults fs =
    ask (label_is fs 0 8000) (at_line no_start 0 0)
    ++ (ask (type_known fs) (at_line unknown_set 0 0)
    ++ ask (label_is fs 1 8100) (at_line no_sum 1 0))

-- ---- 11 to 15: "then all lines, in order, each by 11, 12, 13, 14, 15"

-- Here and below the profile p is given to the rules of contents, and none of them uses it: one field table serves all set types. A rule of 11 to 15 that depends on what the fixed
-- lines choose would read it here. Of the rules of a set only 24 asks what 9206 chooses, of all lines at once.

-- a field whose content fits its label
unfoldable pub fits : Profile → Field → Bool
fits p f = fits_label f.label f.content

-- a field that is not 9218, or is the version that is read
unfoldable pub current : Profile → Field → Bool
current p f = not (eqb f.label 9218) || is0210 f.content

-- 14, BadContent: "content breaks length, kind or rule"; 15, OtherVersion: "9218 well formed, not 02.10"
unfoldable pub content_faults : Profile → ℕ → Field → List Fault
content_faults p k f = cond (fits p f) (ask (current p f) (at_line other_version k f.label)) (at_line bad_content k f.label ∷ [])

-- the content of a label that is not in the table is not judged
unfoldable pub content_rules : Role → Profile → ℕ → Field → List Fault
content_rules unknown p k f = []
content_rules strayed p k f = content_faults p k f
content_rules (at_set_level r) p k f = content_faults p k f
content_rules (member r) p k f = content_faults p k f

unfoldable pub line_rules : Role → Profile → State → ℕ → Field → List Fault
line_rules o p st k f = label_faults o st k f.label ++ content_rules o p k f

-- the role of a field's line, by the state before it
abbrev pub role_in : Profile → State → Field → Role
role_in p st f = role (find (rows_of p) f.label) st.header f.label

unfoldable pub rules_from : Profile → State → ℕ → List Field → List Fault
rules_from p st k [] = []
rules_from p st k (f ∷ fs) = line_rules (role_in p st f) p st k f ++ rules_from p (next (role_in p st f) st k f.label) (k + 1) fs

-- ---- 24: "Seven bits means seven bits" (request E2)

-- "9206 with content 1"
unfoldable pub says_seven_bit : Field → Bool
says_seven_bit f = eqb f.label 9206 && same_bytes f.content (digits 1 1)

-- "If a set holds 9206 with content 1"
unfoldable pub seven_bit : List Field → Bool
seven_bit [] = false
seven_bit (f ∷ fs) = says_seven_bit f || seven_bit fs

-- a fault for each content byte over 7Fh of these lines, in their order; k lines stand before the first of these lines
unfoldable pub high_from : ℕ → List Field → List Fault
high_from k [] = []
high_from k (f ∷ fs) = high_bytes k 0 f.content ++ high_from (k + 1) fs

-- HighByte: "no content byte anywhere in it may exceed 7Fh"; "place of the first such byte": one fault for the set, whatever the number of such bytes (request E9: "once")
unfoldable pub high_faults : List Field → List Fault
high_faults fs = cond (seven_bit fs) (take 1 (high_from 0 fs)) []

-- ---- 17

-- BadSum: "8100 is not the set's length", "place of line 2". "8100 has five digits, the sum of all line lengths of the set, its own included."
unfoldable pub sum_faults : List Field → List Fault
sum_faults fs = ask (eqb (number (content_at_line fs 1)) (size fs)) (at_line bad_sum 1 0)

-- ---- all of them, in order

-- "then 8, 9, 10; then all lines, in order, each by 11, 12, 13, 14, 15; then 16"; then 24, "after Missing and before BadSum": the rules that reader and writer share
unfoldable pub rule_faults : List Field → List Fault
rule_faults fs =
    start_faults fs
    ++ (rules_from (profile fs) first 0 fs
    ++ (missing_faults (rows_of (profile fs)) (labels fs)
    ++ high_faults fs))

-- "then 17": in the reader alone, since the writer computes the sum
unfoldable pub set_faults : List Field → List Fault
set_faults fs = rule_faults fs ++ sum_faults fs
