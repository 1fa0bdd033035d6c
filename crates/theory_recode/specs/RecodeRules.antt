-- What a set in another code page is: the sentences of request E5, each by itself. Nothing here has an order of tests or a table from one code page to the other; a number in a comment says
-- which refusal a line shuts out. Stated by what a set is in Keeps (crate `keeps`) and by the two mapping files as printed (Pages). proofs/RecodeExact: exactly these are made.
-- A line is named by how many stand before it: line 0 is the paper's line 1.
use Rattle.std.specs.Prelude.{◌≡◌, List, [], ◌≢◌, ◌⊎◌, ℕ, suc, ◌+◌, ◌≤◌, ◌<◌, length, take, get_or}
use Rattle.meaning.specs.declared.SetType.{SetType}
use Rattle.meaning.specs.Limits.{max_lines}
use Rattle.meaning.specs.Digits.{digits}
use Rattle.meaning.specs.Field.{Field, field, no_field, label_at_line}
use Rattle.meaning.specs.Lines.{size, render}
use Rattle.keeps.specs.Keeps.{HasSevenBits, Keeps}
use Rattle.keeps.specs.Makes.{sum_line_of}
use Rattle.meaning_recode.specs.declared.Code.{Code}
use Rattle.meaning_recode.specs.declared.Code.TheVariants.{Page437, Page1252}
use Rattle.theory_recode.specs.Pages.{unnamed, character}

-- ---- characters

-- the code page that is not wanted
abbrev pub not_wanted : Code → Code
not_wanted Page437 = Page1252
not_wanted Page1252 = Page437

-- byte c of the wanted code page is the character that byte b is in the other one
pub record SameCharacter (w : Code) (b c : ℕ) : Type 0 where
  pub a_byte : c < 256
  pub named : character (not_wanted w) b ≢ unnamed
  pub same : character w c ≡ character (not_wanted w) b

-- byte b is no character of the wanted code page
abbrev pub NoCharacter : Code → ℕ → Type 0
NoCharacter w b = (c : ℕ) → SameCharacter w b c → ⊥

-- the content d is the content c in the wanted code page, byte by byte
pub record InPage (w : Code) (c d : List ℕ) : Type 0 where
  pub as_long : length d ≡ length c
  pub each : (i : ℕ) → i < length c → SameCharacter w (get_or c i 0) (get_or d i 0)

-- ---- the code page of a set

-- the digit that 9206 holds
abbrev pub code_digit : Code → ℕ
code_digit Page437 = 2
code_digit Page1252 = 3

-- line k is 9206 and names this code page
abbrev pub NamedAt : Code → List Field → ℕ → Type 0
NamedAt w fs k = get_or fs k no_field ≡ field 9206 (digits 1 (code_digit w))

abbrev pub Names : Code → List Field → Type 0
Names w fs = (k : ℕ) × (k < length fs) × NamedAt w fs k

abbrev pub NoCharset : List Field → Type 0
NoCharset fs = (k : ℕ) → k < length fs → label_at_line fs k ≢ 9206

-- "a set without 9206 counts as code page 437"
abbrev pub IsIn : Code → List Field → Type 0
IsIn Page437 fs = Names Page437 fs ⊎ NoCharset fs
IsIn Page1252 fs = Names Page1252 fs

-- ---- what becomes of a set

-- the same line in the wanted code page: 9206 names that, any other line has its label and the same characters
pub record LineInPage (w : Code) (f g : Field) : Type 0 where
  pub charset : f.label ≡ 9206 → g ≡ field 9206 (digits 1 (code_digit w))
  pub label-stays : g.label ≡ f.label
  pub content-in-page : f.label ≢ 9206 → InPage w f.content g.content

-- "Sets with 9206 = 1 only change that content."
pub record OnlyCharset (w : Code) (fs new : List Field) : Type 0 where
  pub as_many : length new ≡ length fs
  pub charset : (k : ℕ) → label_at_line fs k ≡ 9206 → NamedAt w new k
  pub others-stay : (k : ℕ) → label_at_line fs k ≢ 9206 → get_or new k no_field ≡ get_or fs k no_field

-- a set whose 9206 names the other code page: every line in the wanted one
pub record AllInPage (w : Code) (fs new : List Field) : Type 0 where
  pub as_many : length new ≡ length fs
  pub each : (k : ℕ) → k < length fs → LineInPage w (get_or fs k no_field) (get_or new k no_field)

-- "gains that line as line 3": lines 1 and 2 stay where they are, and line 2 is the new sum; all lines after them are one further on
pub record GainedLine (w : Code) (fs new : List Field) : Type 0 where
  pub one-more : length new ≡ suc (length fs)
  pub first-stays : get_or new 0 no_field ≡ get_or fs 0 no_field
  pub new-sum : get_or new 1 no_field ≡ sum_line_of new
  pub charset : NamedAt w new 2
  pub each : (k : ℕ) → 2 ≤ k → k < length fs → LineInPage w (get_or fs k no_field) (get_or new (suc k) no_field)

-- the lines fs of a set become the lines new
pub data Recoded (w : Code) (fs new : List Field) : Type 0 where
  -- "A set already in the wanted code stays as it is."
  stays : IsIn w fs → new ≡ fs → Recoded w fs new
  only-charset : HasSevenBits fs → OnlyCharset w fs new → Recoded w fs new
  all_lines : Names (not_wanted w) fs → AllInPage w fs new → Recoded w fs new
  -- 7: the added line is at most the 512th; a set without 9206 counts as 437, so 1252 is wanted
  gained : w ≡ Page1252 → NoCharset fs → length fs + 1 ≤ max_lines → GainedLine w fs new → Recoded w fs new

-- of the buffer b the first `used` bytes are a set; brought into the wanted code page it is out, which then stands at the front
pub record Recodes (b : List ℕ) (used : ℕ) (w : Code) (out : List ℕ) : Type 0 where
  pub set-type : SetType
  pub lines : List Field
  pub new : List Field
  -- 18, the set's own rules, and nothing follows it
  pub used-within : used ≤ length b
  pub keeps : Keeps (take used b) set-type lines []
  -- 7, 27
  pub new-lines : Recoded w lines new
  -- 22
  pub has_room : size new ≤ length b
  pub out-is : out ≡ render new []
