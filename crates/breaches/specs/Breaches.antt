-- Refusals: every breach of a rule with its number, its place and its label, and the paper's order of breaches, stated once.
-- Stated by the words of Keeps in crate `keeps`. proofs/FirstBreach: what is answered is a breach of its rule, and no breach comes before it.
use Rattle.std.specs.Prelude.{◌≡◌, false, List, [], ◌∷◌, ◌++◌, ◌⊎◌, ◌≢◌, ℕ, suc, ◌+◌, ◌-◌, ◌≤◌, ◌<◌, length, take, drop, get_or}
use Rattle.meaning.specs.declared.Row.{Row}
use Rattle.meaning.specs.declared.SetType.{SetType}
use Rattle.meaning.specs.declared.Refusal.{Refusal}
use Rattle.meaning.specs.Limits.{max_lines, type_number}
use Rattle.meaning.specs.Digits.{digits, number, all_digits}
use Rattle.meaning.specs.Field.{Field, label_at_line, content_at_line}
use Rattle.meaning.specs.Lines.{length_digits, label_digits, line_lead, cr, lf, min_line_bytes, least_byte, most_seven_bits, size, offset, render, size_at, content_at}
use Rattle.meaning.specs.Tables.{single}
use Rattle.meaning.specs.Kinds.{point}
use Rattle.meaning.specs.FieldTable.{fits_label}
use Rattle.meaning.specs.Refusals.{refusal, empty, bad_length, cut_line, bad_end, bad_label, bad_byte, too_many_lines, no_start, unknown_set, no_sum, not_in_set}
use Rattle.meaning.specs.Refusals.{stray, repeated, bad_content, other_version, missing, bad_sum, high_byte}
use Rattle.keeps.specs.Keeps.{LinesWellFormed, StartsSet, EndsBefore, HasRow, AtSetLevel, Required, MemberOf, IsName, IsOdd, InGroup, GroupHas, HasSevenBits}

-- ---- 2 to 7: a line that starts after the lines fs

-- the lines fs are well formed and none but the first starts a set; more follows, which starts no set unless it is the first line
pub record LineStarts (s : List ℕ) (fs : List Field) (rest : List ℕ) : Type 0 where
  pub its-bytes : s ≡ render fs rest
  pub well-formed : LinesWellFormed fs
  pub no-earlier : (k : ℕ) → 0 < k → k < length fs → StartsSet (drop (offset fs k) s) → ⊥
  pub more : rest ≢ []
  pub no-set : 0 < length fs → StartsSet rest → ⊥

-- what is wrong with the line at the front of rest, which has n lines before it
pub data LineBreach (n : ℕ) (rest : List ℕ) : Type 0 where
  -- "a 513th line starts"
  too_many : n ≡ max_lines → LineBreach n rest
  -- "under three bytes remain, not digits, or below 010"
  bad-length : (length rest < length_digits) ⊎ ((all_digits (take length_digits rest) ≡ false) ⊎ (size_at rest < min_line_bytes)) → LineBreach n rest
  -- "the line runs past the input"
  cut-line : length rest < size_at rest → LineBreach n rest
  -- "last two bytes are not 0Dh 0Ah"
  bad-end : (get_or rest (size_at rest - 2) 0 ≢ cr) ⊎ (get_or rest (size_at rest - 1) 0 ≢ lf) → LineBreach n rest
  -- "label not four digits"
  bad-label : all_digits (take label_digits (drop length_digits rest)) ≡ false → LineBreach n rest
  -- "content byte under 20h"
  low_byte : (i : ℕ) → i < length (content_at rest) → get_or (content_at rest) i 0 < least_byte → LineBreach n rest

-- ---- 8, 9, 10, 24, 17: the lines of the set at the front

pub record SetLines (s : List ℕ) (fs : List Field) (rest : List ℕ) : Type 0 where
  pub its-bytes : s ≡ render fs rest
  pub some-line : 0 < length fs
  pub well-formed : LinesWellFormed fs
  pub ends : EndsBefore s fs rest
  pub few-lines : length fs ≤ max_lines

pub data StartBreach (fs : List Field) : Type 0 where
  -- "line 1 is not 8000"
  no-start : label_at_line fs 0 ≢ 8000 → StartBreach fs
  -- "8000 names none of the five"
  unknown-set : ((t : SetType) → content_at_line fs 0 ≢ digits 4 (type_number t)) → StartBreach fs
  -- "line 2 is absent (place: set length) or not 8100"
  no-sum : label_at_line fs 1 ≢ 8100 → StartBreach fs

-- ---- 11 to 15: line k of a set of type t

abbrev pub Single : SetType → ℕ → Type 0
Single t l = (r : Row) × HasRow t l r × (r.many ≡ single)

pub data RuleBreach (t : SetType) (fs : List Field) (k : ℕ) : Type 0 where
  -- "label not in the set's table"
  not-in-set : ((r : Row) → HasRow t (label_at_line fs k) r → ⊥) → RuleBreach t fs k
  -- "member outside its group"
  stray-member : (h : ℕ) → MemberOf t h (label_at_line fs k) → ((i : ℕ) → label_at_line fs i ≡ h → InGroup t fs i k → ⊥) → RuleBreach t fs k
  -- "or odd label not after its name"
  stray-odd : IsOdd (label_at_line fs k) → ((j : ℕ) → k ≡ suc j → label_at_line fs k ≡ suc (label_at_line fs j) → ⊥) → RuleBreach t fs k
  -- "single label again in the set"
  repeated-in-set : (i : ℕ) → i < k → label_at_line fs i ≡ label_at_line fs k → AtSetLevel t (label_at_line fs k) → Single t (label_at_line fs k) → RuleBreach t fs k
  -- "or its group"
  repeated-in-group : (h i : ℕ) → i < k → InGroup t fs h i → InGroup t fs h k → label_at_line fs i ≡ label_at_line fs k → Single t (label_at_line fs k) → RuleBreach t fs k
  -- "content breaks length, kind or rule"
  bad-content : fits_label (label_at_line fs k) (content_at_line fs k) ≡ false → RuleBreach t fs k
  -- "9218 .. not 02.10". One that is not well formed breaks 14 as well, and 14 comes first, by its number
  other-version : label_at_line fs k ≡ 9218 → content_at_line fs k ≢ digits 2 2 ++ (point ∷ digits 2 10) → RuleBreach t fs k

-- ---- 16: "required label absent"

-- label l is required in the group of line h: always, or on its condition
pub data RequiredIn (t : SetType) (fs : List Field) (h l : ℕ) : Type 0 where
  always : Required t l → RequiredIn t fs h l
  with_value : l ≡ 8421 → GroupHas t fs h 8420 ⊎ (GroupHas t fs h 8461 ⊎ GroupHas t fs h 8462) → RequiredIn t fs h l
  with-8438 : l ≡ 8437 → GroupHas t fs h 8438 → RequiredIn t fs h l

pub data MissingBreach (t : SetType) (fs : List Field) : Type 0 where
  of-set : (l : ℕ) → AtSetLevel t l → Required t l → ((k : ℕ) → k < length fs → label_at_line fs k ≢ l) → MissingBreach t fs
  of-group : (h l : ℕ) → h < length fs → MemberOf t (label_at_line fs h) l → RequiredIn t fs h l → (GroupHas t fs h l → ⊥) → MissingBreach t fs
  of-name : (k : ℕ) → k < length fs → IsName (label_at_line fs k) → label_at_line fs (suc k) ≢ suc (label_at_line fs k) → MissingBreach t fs

-- ---- all breaches

-- the lines fs of a set whose first line has the digits of type t as content. Its label is not asked: if it is not 8000, that breach comes before all that are stated with this
pub record TypedLines (s : List ℕ) (t : SetType) (fs : List Field) (rest : List ℕ) : Type 0 where
  pub set_lines : SetLines s fs rest
  pub names-type : content_at_line fs 0 ≡ digits 4 (type_number t)

pub data Breach (s : List ℕ) : Type 0 where
  -- "a set .. of no bytes"
  no_bytes : s ≡ [] → Breach s
  in-line : (fs : List Field) (rest : List ℕ) → LineStarts s fs rest → LineBreach (length fs) rest → Breach s
  in_start : (fs : List Field) (rest : List ℕ) → SetLines s fs rest → StartBreach fs → Breach s
  in-rules : (t : SetType) (fs : List Field) (rest : List ℕ) → TypedLines s t fs rest → (k : ℕ) → k < length fs → RuleBreach t fs k → Breach s
  in-missing : (t : SetType) (fs : List Field) (rest : List ℕ) → TypedLines s t fs rest → MissingBreach t fs → Breach s
  -- "If a set holds 9206 with content 1, no content byte anywhere in it may exceed 7Fh.": byte i of line k does
  in-high : (fs : List Field) (rest : List ℕ) → SetLines s fs rest → HasSevenBits fs → (k i : ℕ) → k < length fs → i < length (content_at_line fs k)
      → most_seven_bits < get_or (content_at_line fs k) i 0 → Breach s
  -- "8100 is not the set's length"
  in_sum : (fs : List Field) (rest : List ℕ) → SetLines s fs rest → number (content_at_line fs 1) ≢ size fs → Breach s

-- ---- number, place and label: "The place is the offset of the line's first byte and the label 0, unless said otherwise."

abbrev pub line_refusal : {n : ℕ} {rest : List ℕ} → ℕ → LineBreach n rest → Refusal
line_refusal at (too_many e) = refusal too_many_lines at 0
line_refusal at (bad-length e) = refusal bad_length at 0
line_refusal at (cut-line e) = refusal cut_line at 0
line_refusal at (bad-end e) = refusal bad_end at 0
line_refusal at (bad-label e) = refusal bad_label at 0
line_refusal at (low_byte i l e) = refusal bad_byte (at + (line_lead + i)) 0

abbrev pub start_refusal : {fs : List Field} → StartBreach fs → Refusal
start_refusal (no-start e) = refusal no_start 0 0
start_refusal (unknown-set e) = refusal unknown_set 0 0
start_refusal {fs} (no-sum e) = refusal no_sum (offset fs 1) 0

abbrev pub rule_number : {t : SetType} {fs : List Field} {k : ℕ} → RuleBreach t fs k → ℕ
rule_number (not-in-set e) = not_in_set
rule_number (stray-member h m e) = stray
rule_number (stray-odd o e) = stray
rule_number (repeated-in-set i l e a b) = repeated
rule_number (repeated-in-group h i l g f e b) = repeated
rule_number (bad-content e) = bad_content
rule_number (other-version e n) = other_version

-- "place 0 for the set and the header's or name's line else", "11 to 16 .. carry the label concerned"
abbrev pub missing_refusal : {t : SetType} {fs : List Field} → MissingBreach t fs → Refusal
missing_refusal (of-set l a r n) = refusal missing 0 l
missing_refusal {fs = fs} (of-group h l b m r n) = refusal missing (offset fs h) l
missing_refusal {fs = fs} (of-name k b i n) = refusal missing (offset fs k) (suc (label_at_line fs k))

abbrev pub refusal_of : {s : List ℕ} → Breach s → Refusal
refusal_of (no_bytes e) = refusal empty 0 0
refusal_of (in-line fs rest l b) = line_refusal (size fs) b
refusal_of (in_start fs rest l b) = start_refusal b
refusal_of (in-rules t fs rest l k i b) = refusal (rule_number b) (offset fs k) (label_at_line fs k)
refusal_of (in-missing t fs rest l b) = missing_refusal b
refusal_of (in-high fs rest l h k i a b e) = refusal high_byte (offset fs k + (line_lead + i)) 0
refusal_of (in_sum fs rest l e) = refusal bad_sum (offset fs 1) 0

-- ---- the order

-- the rank of a breach: its stage, then its line, then its number or label, then its byte
pub record Rank : Type 0 where
  pub stage : ℕ
  pub line : ℕ
  pub part : ℕ
  pub byte : ℕ

abbrev pub rank : ℕ → ℕ → ℕ → ℕ → Rank
rank a b c d = record { stage = a; line = b; part = c; byte = d }

-- a lower stage comes first; in one stage the lower line; in one line the lower number or label; then the lower byte
abbrev pub Before : Rank → Rank → Type 0
Before a b =
    (a.stage < b.stage)
    ⊎ ((a.stage ≡ b.stage) × ((a.line < b.line) ⊎ ((a.line ≡ b.line) × ((a.part < b.part) ⊎ ((a.part ≡ b.part) × (a.byte < b.byte))))))

-- "then all lines, in order, each by 7, 2, 3, 4, 5, 6": 7 comes first
abbrev pub line_rank : {n : ℕ} {rest : List ℕ} → LineBreach n rest → Rank
line_rank {n} (too_many e) = rank 1 n 0 0
line_rank {n} (bad-length e) = rank 1 n bad_length 0
line_rank {n} (cut-line e) = rank 1 n cut_line 0
line_rank {n} (bad-end e) = rank 1 n bad_end 0
line_rank {n} (bad-label e) = rank 1 n bad_label 0
line_rank {n} (low_byte i l e) = rank 1 n bad_byte i

-- "then 8, 9, 10"
abbrev pub start_rank : {fs : List Field} → StartBreach fs → Rank
start_rank (no-start e) = rank 2 0 no_start 0
start_rank (unknown-set e) = rank 2 0 unknown_set 0
start_rank (no-sum e) = rank 2 0 no_sum 0

-- "then 16, set level before groups and pairs in order, lowest label first"
abbrev pub missing_rank : {t : SetType} {fs : List Field} → MissingBreach t fs → Rank
missing_rank (of-set l a r n) = rank 4 0 l 0
missing_rank (of-group h l b m r n) = rank 4 (suc h) l 0
missing_rank {fs = fs} (of-name k b i n) = rank 4 (suc k) (suc (label_at_line fs k)) 0

-- 24, "after Missing and before BadSum"; "place of the first such byte": the first line that has one, and its first one
abbrev pub high_rank : ℕ → ℕ → Rank
high_rank k i = rank 5 k 0 i

-- "then 17": it comes last
abbrev pub sum_rank : Rank
sum_rank = rank 6 0 0 0

-- "first 1; then all lines ..; then 8, 9, 10; then all lines, in order, each by 11, 12, 13, 14, 15; then 16 ..", then 24; "then 17"
abbrev pub rank_of : {s : List ℕ} → Breach s → Rank
rank_of (no_bytes e) = rank 0 0 0 0
rank_of (in-line fs rest l b) = line_rank b
rank_of (in_start fs rest l b) = start_rank b
rank_of (in-rules t fs rest l k i b) = rank 3 k (rule_number b) 0
rank_of (in-missing t fs rest l b) = missing_rank b
rank_of (in-high fs rest l h k i a b e) = high_rank k i
rank_of (in_sum fs rest l e) = sum_rank

-- "So the first fault in this order is the answer": r is the refusal of a breach that no other comes before
pub record FirstBreach (s : List ℕ) (r : Refusal) : Type 0 where
  pub breach : Breach s
  pub its-refusal : r ≡ refusal_of breach
  pub none_before : (b : Breach s) → Before (rank_of b) (rank_of breach) → ⊥
