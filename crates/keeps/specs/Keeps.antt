-- What an accepted set is: the rules of the paper, each stated by itself. Nothing here has an order, a state or a number of a refusal.
-- Stated over fields, lines as they are written, digits, rows, content tests and limits alone (tests/keeps).
--
-- Contents and rows are shared with `meaning`: `ContentsFit` asks its field table and content tests (`fits_label`), `HasRow` its set tables. So a wrong row or a wrong test would be
-- wrong here, too. These are held by the rows as printed, in FieldExamples and RowExamples of crate `examples`. All else is said here once more, in other words.
--
-- proofs/Exact: a set is accepted exactly when it keeps them. Read `Keeps` at the end first. A line is named by how many stand before it, as in Field: line 0 is the
-- paper's line 1; after the last line stands label 0, which no table has. `(k : ℕ) → P k` is "for every k", `(k : ℕ) × P k` is "there is a k", `×` also "and", `⊎` "or",
-- `P → ⊥` "not P", `≢` "differs from".
use Rattle.std.specs.Prelude.{◌≡◌, true, List, [], ◌∷◌, ◌++◌, ◌⊎◌, ◌≢◌, ℕ, suc, ◌%◌, ◌≤◌, ◌<◌, length, take, drop, get_or}
use Rattle.std.proofs.Math.Option.{some}
use Rattle.meaning.specs.declared.Row.{Row}
use Rattle.meaning.specs.declared.SetType.{SetType}
use Rattle.meaning.specs.declared.Shape.{Shape}
use Rattle.meaning.specs.Limits.{max_lines, max_line_bytes, type_number}
use Rattle.meaning.specs.Digits.{digits, number}
use Rattle.meaning.specs.Field.{Field, no_field, label_at_line, content_at_line}
use Rattle.meaning.specs.Lines.{length_digits, label_digits, line_lead, least_byte, most_seven_bits, line_size, size, offset, render}
use Rattle.meaning.specs.Tables.{set_level, repeats, M, table, find}
use Rattle.meaning.specs.Kinds.{point}
use Rattle.meaning.specs.FieldTable.{fits_label}

-- ---- line and set

-- "A line is three digits (its whole length), four digits (label), content, 0Dh 0Ah. Length = content + 9.": so `render` writes a field (Lines). It is such a line if label
-- and length have no more digits, "Content has 1 byte or more, so lengths run 010 to 999" and "Content bytes are 20h to FFh.", up to 7Fh if the set says so (`SevenBitsKept`).
pub record WellFormed (f : Field) : Type 0 where
  pub four-digits : f.label ≤ 9999
  pub some_byte : 1 ≤ length f.content
  pub three-digits : line_size f ≤ max_line_bytes
  pub no-low-byte : (i : ℕ) → i < length f.content → least_byte ≤ get_or f.content i 0

-- every line
abbrev pub LinesWellFormed : List Field → Type 0
LinesWellFormed fs = (k : ℕ) → k < length fs → WellFormed (get_or fs k no_field)

-- "seven or more bytes remain and bytes four to seven read `8000`"
abbrev pub StartsSet : List ℕ → Type 0
StartsSet s = (line_lead ≤ length s) × (take label_digits (drop length_digits s) ≡ digits label_digits 8000)

-- "It ends before the first later line start where [a set starts], else at the end of the input.": no later line starts a set, and what follows the lines does, or is
-- nothing
pub record EndsBefore (s : List ℕ) (fs : List Field) (rest : List ℕ) : Type 0 where
  pub no-earlier : (k : ℕ) → 0 < k → k < length fs → StartsSet (drop (offset fs k) s) → ⊥
  pub there : (rest ≡ []) ⊎ StartsSet rest

-- "Line 1 is 8000", and it names one of the five types
abbrev pub StartsWith : SetType → List Field → Type 0
StartsWith t fs = (label_at_line fs 0 ≡ 8000) × (content_at_line fs 0 ≡ digits 4 (type_number t))

-- "8100 has five digits, the sum of all line lengths of the set, its own included." That it has five digits, the field table says.
abbrev pub SumIsLength : List Field → Type 0
SumIsLength fs = number (content_at_line fs 1) ≡ size fs

-- ---- what the table of the set's type says of a label

-- r is the row of label l
abbrev pub HasRow : SetType → ℕ → Row → Type 0
HasRow t l r = find (table t) l ≡ some r

-- it stands at set level; it repeats; it is required there, or in every group of its header
abbrev pub AtSetLevel : SetType → ℕ → Type 0
AtSetLevel t l = (r : Row) × HasRow t l r × (r.under ≡ set_level)

abbrev pub Repeats : SetType → ℕ → Type 0
Repeats t l = (r : Row) × HasRow t l r × (r.many ≡ repeats)

abbrev pub Required : SetType → ℕ → Type 0
Required t l = (r : Row) × HasRow t l r × (r.required ≡ M)

-- "In 6310 every 8410 opens a group. Its members are the labels that the table puts under it"; "In 6310 every 6302 opens a group; 6303, 6304 and 6305 are its members":
-- label l is a member of groups of label h. In the other sets no row stands under 8410 or 6302.
abbrev pub MemberOf : SetType → ℕ → ℕ → Type 0
MemberOf t h l = ((h ≡ 8410) ⊎ (h ≡ 6302)) × (r : Row) × HasRow t l r × (r.under ≡ h)

-- "Even labels 6330 to 6398 are names", and the odd labels
abbrev pub IsName : ℕ → Type 0
IsName l = (6330 ≤ l) × (l ≤ 6398) × (l % 2 ≡ 0)

abbrev pub IsOdd : ℕ → Type 0
IsOdd l = (6331 ≤ l) × (l ≤ 6399) × (l % 2 ≡ 1)

-- ---- groups

-- "A group ends at the first line that is not a member of its header": line k is in the group of line h if every line after h up to k is a member of h's label
pub record InGroup (t : SetType) (fs : List Field) (h k : ℕ) : Type 0 where
  pub behind : h < k
  pub a-line : k < length fs
  pub all-members : (j : ℕ) → h < j → j ≤ k → MemberOf t (label_at_line fs h) (label_at_line fs j)

-- the group of line h has label l
abbrev pub GroupHas : SetType → List Field → ℕ → ℕ → Type 0
GroupHas t fs h l = (k : ℕ) × InGroup t fs h k × (label_at_line fs k ≡ l)

-- ---- each line

-- no "label not in the set's table"
abbrev pub LabelsInTable : SetType → List Field → Type 0
LabelsInTable t fs = (k : ℕ) → k < length fs → (r : Row) × HasRow t (label_at_line fs k) r

-- no "member outside its group": it is in the group of a line that has its header's label
abbrev pub MembersInGroups : SetType → List Field → Type 0
MembersInGroups t fs = (k h : ℕ) → k < length fs → MemberOf t h (label_at_line fs k) → (i : ℕ) × (label_at_line fs i ≡ h) × InGroup t fs i k

-- "An odd label 6331 to 6399 stands nowhere else" than after its name: the line before it has the label one lower
abbrev pub OddsAfterNames : List Field → Type 0
OddsAfterNames fs = (k : ℕ) → k < length fs → IsOdd (label_at_line fs k) → (j : ℕ) × (k ≡ suc j) × (label_at_line fs k ≡ suc (label_at_line fs j))

-- no "single label again in the set": what stands on two lines, at set level, repeats
abbrev pub NotRepeatedInSet : SetType → List Field → Type 0
NotRepeatedInSet t fs =
    (i j : ℕ) → i < length fs → j < length fs → i ≢ j → label_at_line fs i ≡ label_at_line fs j → AtSetLevel t (label_at_line fs i) → Repeats t (label_at_line fs i)

-- "or its group": what stands on two lines of one group repeats
abbrev pub NotRepeatedInGroups : SetType → List Field → Type 0
NotRepeatedInGroups t fs =
    (h i j : ℕ) → InGroup t fs h i → InGroup t fs h j → i ≢ j → label_at_line fs i ≡ label_at_line fs j → Repeats t (label_at_line fs i)

-- no "content breaks length, kind or rule" of its field
abbrev pub ContentsFit : List Field → Type 0
ContentsFit fs = (k : ℕ) → k < length fs → fits_label (label_at_line fs k) (content_at_line fs k) ≡ true

-- "only `02.10` is read"
abbrev pub VersionIs0210 : List Field → Type 0
VersionIs0210 fs = (k : ℕ) → k < length fs → label_at_line fs k ≡ 9218 → content_at_line fs k ≡ digits 2 2 ++ (point ∷ digits 2 10)

-- "a set holds 9206 with content 1"
abbrev pub HasSevenBits : List Field → Type 0
HasSevenBits fs = (j : ℕ) × (j < length fs) × (label_at_line fs j ≡ 9206) × (content_at_line fs j ≡ digits 1 1)

-- "no content byte .. may exceed 7Fh"
abbrev pub NoHighByte : List ℕ → Type 0
NoHighByte c = (i : ℕ) → i < length c → get_or c i 0 ≤ most_seven_bits

-- "If a set holds 9206 with content 1, no content byte anywhere in it may exceed 7Fh.": on no line
abbrev pub SevenBitsKept : List Field → Type 0
SevenBitsKept fs = HasSevenBits fs → (k : ℕ) → k < length fs → NoHighByte (content_at_line fs k)

-- ---- no "required label absent"

-- "Required at set level: 8000, 8100, 9218, 3000 in all; 3101, 3102, 3103 also in 6301 and 6302; 8402 also in 6310.": they stand on some line
abbrev pub SetComplete : SetType → List Field → Type 0
SetComplete t fs = (l : ℕ) → AtSetLevel t l → Required t l → (k : ℕ) × (k < length fs) × (label_at_line fs k ≡ l)

-- "6303, 6304 and 6305 are its members, each required once.": every group has the members that the table requires
abbrev pub GroupsComplete : SetType → List Field → Type 0
GroupsComplete t fs = (h l : ℕ) → h < length fs → MemberOf t (label_at_line fs h) l → Required t l → GroupHas t fs h l

-- "any other member marked m with a condition is required likewise": 8421 in a group that has 8420, 8461 or 8462
abbrev pub Needs8421 : SetType → List Field → Type 0
Needs8421 t fs = (h : ℕ) → GroupHas t fs h 8420 ⊎ (GroupHas t fs h 8461 ⊎ GroupHas t fs h 8462) → GroupHas t fs h 8421

-- "8437 is required in a group that has 8438"
abbrev pub Needs8437 : SetType → List Field → Type 0
Needs8437 t fs = (h : ℕ) → GroupHas t fs h 8438 → GroupHas t fs h 8437

-- "Even labels 6330 to 6398 are names; the next line must be the label one higher."
abbrev pub NamesFollowed : List Field → Type 0
NamesFollowed fs = (k : ℕ) → k < length fs → IsName (label_at_line fs k) → label_at_line fs (suc k) ≡ suc (label_at_line fs k)

-- ---- a set that keeps the rules

-- the lines fs keep the rules for sets of type t, each rule by itself
pub record KeepsRules (t : SetType) (fs : List Field) : Type 0 where
  pub starts : StartsWith t fs
  pub second-8100 : label_at_line fs 1 ≡ 8100
  -- set table and groups
  pub in_table : LabelsInTable t fs
  pub in-groups : MembersInGroups t fs
  pub after-names : OddsAfterNames fs
  pub not-repeated-in-set : NotRepeatedInSet t fs
  pub not-repeated-in-groups : NotRepeatedInGroups t fs
  -- field table
  pub contents-fit : ContentsFit fs
  pub version : VersionIs0210 fs
  -- the character set
  pub seven-bits : SevenBitsKept fs
  -- what is required
  pub set-complete : SetComplete t fs
  pub groups-complete : GroupsComplete t fs
  pub needs-8421 : Needs8421 t fs
  pub needs-8437 : Needs8437 t fs
  pub names-followed : NamesFollowed fs

-- s is the lines fs of a set of type t, and then rest; the set keeps the line syntax and every rule
pub record Keeps (s : List ℕ) (t : SetType) (fs : List Field) (rest : List ℕ) : Type 0 where
  pub its-bytes : s ≡ render fs rest
  pub well-formed : LinesWellFormed fs
  pub ends : EndsBefore s fs rest
  pub few-lines : length fs ≤ max_lines
  pub rules : KeepsRules t fs
  pub sum-is-length : SumIsLength fs

-- a set of this shape stands at the front of s and keeps the line syntax and every rule
pub record SetAtFront (s : List ℕ) (x : Shape) : Type 0 where
  pub set-type : SetType
  pub lines : List Field
  pub rest : List ℕ
  pub keeps : Keeps s set-type lines rest
  pub shape_is : x ≡ record { length = size lines; lines = length lines; settype = type_number set-type }
