-- Which labels were seen, as flags, and what is then missing, as the code walks it. proofs/LackMeaning ties it to `Missing` of `meaning`.
use Rattle.std.specs.Prelude.{Bool, ◌≡◌, true, false, cond, not, ◌&&◌, ◌||◌, List, [], ◌∷◌, ℕ, ◌+◌, get_or, replicate, ltb, eqb, Option, Some, None}
use Rattle.meaning.specs.declared.Refusal.{Refusal}
use Rattle.meaning.specs.declared.SetType.{SetType}
use Rattle.meaning.specs.declared.SetType.TheVariants.{T6300, T6301, T6302, T6310, T6311}
use Rattle.meaning.specs.Refusals.{refusal, missing}
use Rattle.meaning.specs.Tables.{row_label}
use Rattle.meaning.specs.Groups.{no_header}
use Rattle.meaning.specs.Answers.{no_refusal, or_else}
use Rattle.table_fields.specs.LabelNumbers.{label_number}
use Rattle.judge_missing.specs.declared.Lack.{Lack}
use Rattle.judge_missing.specs.declared.State.{State}

-- ---- what the lines so far leave, as `Groups.State`, with flags by a label's number in the place of labels and the header's place in the place of its line

abbrev pub row_count : ℕ
row_count = 57

-- the open header or name, the place of its line, and which labels were seen: in its group, and at set level
pub record Flagged : Type 0 where
  pub header : ℕ
  pub place : ℕ
  pub members : List Bool
  pub top : List Bool

abbrev pub no_flags : List Bool
no_flags = replicate row_count false

-- before line 1
abbrev pub none_seen : Flagged
none_seen = record { header = no_header; place = 0; members = no_flags; top = no_flags }

-- a label's flag
unfoldable pub seen : List Bool → ℕ → Bool
seen on l = get_or on (label_number l) false

-- ---- 16, by the few labels that are needed

-- the refusal of what is lacking; none if nothing is
abbrev pub told : Option Refusal → Refusal
told None = no_refusal
told (Some r) = r

-- one that is there has a number
abbrev pub has_number : Option Refusal → Type 0
has_number None = Unit
has_number (Some r) = r.no ≡ 0 → ⊥

-- one that is there is by 16
abbrev pub only_missing : Option Refusal → Type 0
only_missing None = Unit
only_missing (Some r) = r.no ≡ missing

-- the refusal by 16 of a label that is lacking; none if nothing is
abbrev pub told_lack : Option Lack → Refusal
told_lack None = no_refusal
told_lack (Some x) = refusal missing x.place x.label

-- a label that is needed and not there
abbrev pub lacks : (ℕ → Bool) → ℕ → Bool → Bool
lacks has l need = need && not (has l)

abbrev pub lack_here : ℕ → ℕ → Refusal
lack_here place l = refusal missing place l

-- a group that has a value or a limit
unfoldable pub valued : (ℕ → Bool) → Bool
valued has = has 8420 || (has 8461 || has 8462)

unfoldable pub lack8437 : (ℕ → Bool) → ℕ → Refusal
lack8437 has place = cond (lacks has 8437 (has 8438)) (lack_here place 8437) no_refusal

unfoldable pub lack8410 : (ℕ → Bool) → ℕ → Refusal
lack8410 has place = cond (lacks has 8421 (valued has)) (lack_here place 8421) (lack8437 has place)

unfoldable pub lack6302 : (ℕ → Bool) → ℕ → Refusal
lack6302 has place =
    cond (has 6303) (cond (has 6304) (cond (has 6305) no_refusal (lack_here place 6305)) (lack_here place 6304)) (lack_here place 6303)

unfoldable pub lack_name : (ℕ → Bool) → ℕ → ℕ → Refusal
lack_name has h place = cond (has 6331) no_refusal (lack_here place (h + 1))

-- what the group of header h lacks: only 6310 has groups
unfoldable pub lack_under : ℕ → (ℕ → Bool) → ℕ → ℕ → Refusal
lack_under row has h place =
    cond (eqb row 8410) (lack8410 has place) (cond (eqb row 6302) (lack6302 has place) (cond (eqb row 6330) (lack_name has h place) no_refusal))

unfoldable pub group_lack : SetType → (ℕ → Bool) → ℕ → ℕ → Refusal
group_lack T6300 has h place = no_refusal
group_lack T6301 has h place = no_refusal
group_lack T6302 has h place = no_refusal
group_lack T6310 has h place = lack_under (row_label h) has h place
group_lack T6311 has h place = no_refusal

-- what the set lacks at set level, lowest label first
unfoldable pub lack_all : (ℕ → Bool) → List ℕ → Refusal
lack_all has [] = no_refusal
lack_all has (l ∷ ls) = let rest = lack_all has ls in cond (has l) rest (lack_here 0 l)

abbrev pub basic_labels : List ℕ
basic_labels = 3000 ∷ 8000 ∷ 8100 ∷ 9218 ∷ []

abbrev pub patient_labels : List ℕ
patient_labels = 3000 ∷ 3101 ∷ 3102 ∷ 3103 ∷ 8000 ∷ 8100 ∷ 9218 ∷ []

abbrev pub test_labels : List ℕ
test_labels = 3000 ∷ 8000 ∷ 8100 ∷ 8402 ∷ 9218 ∷ []

abbrev pub required_labels : SetType → List ℕ
required_labels T6300 = basic_labels
required_labels T6301 = patient_labels
required_labels T6302 = patient_labels
required_labels T6310 = test_labels
required_labels T6311 = basic_labels

-- the first of some labels that was not seen, each with its number before it: how the code asks for the labels of a list
unfoldable pub lack_by : List Bool → ℕ → List (ℕ × ℕ) → Refusal
lack_by on place [] = no_refusal
lack_by on place (x ∷ xs) = let rest = lack_by on place xs in cond (get_or on x.0 false) rest (lack_here place x.1)

-- each has the number of a flag
abbrev pub in_rows : List (ℕ × ℕ) → Bool
in_rows [] = true
in_rows (x ∷ xs) = ltb x.0 row_count && in_rows xs

-- the open group's lack, if one is open
unfoldable pub open_lack : SetType → ℕ → ℕ → List Bool → Refusal
open_lack settype header place members = cond (eqb header no_header) no_refusal (group_lack settype (seen members) header place)

-- the first group's lack so far
unfoldable pub first_lack : SetType → ℕ → ℕ → List Bool → Refusal → Refusal
first_lack settype header place members lack = or_else lack (open_lack settype header place members)

-- the set's lack
unfoldable pub set_lack : SetType → List Bool → Refusal
set_lack settype top = lack_all (seen top) (required_labels settype)

-- set level first, then groups and pairs in order
unfoldable pub finish : SetType → Flagged → Refusal → Refusal
finish settype st lack = or_else (set_lack settype st.top) (first_lack settype st.header st.place st.members lack)

-- 16, and then what is found by 24 (`high`), if 9206 was seen at set level
abbrev pub finish_then : SetType → Flagged → Refusal → Refusal → Refusal
finish_then settype st lack high = or_else (finish settype st lack) (cond (seen st.top 9206) high no_refusal)

-- the state that the code holds, without the first group's lack
abbrev pub flagged_of : State → Flagged
flagged_of x = record { header = x.header; place = x.place; members = x.members; top = x.top }

-- before line 1, as the code holds it
abbrev pub before_lines : State
before_lines = record { header = no_header; place = 0; lack = None; members = no_flags; top = no_flags }
