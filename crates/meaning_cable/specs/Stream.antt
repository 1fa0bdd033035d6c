-- The data of a set on the cable: "Lines are joined by one 1Ch in place of their 0Dh 0Ah, lengths still count both."
use Rattle.std.specs.Prelude.{Bool, true, cond, ◌&&◌, ◌||◌, List, [], ◌∷◌, ◌++◌, ℕ, leb, eqb}
use Rattle.meaning.specs.Digits.{digits}
use Rattle.meaning.specs.Field.{Field}
use Rattle.meaning.specs.Lines.{length_digits, label_digits, cr, lf, least_byte, line_size}

-- 1Ch, the byte between two lines
abbrev pub separator : ℕ
separator = 0x1C

-- the line of a field without its 0Dh 0Ah, and then `t`. The three digits are those of the whole line: "lengths still count both"
abbrev pub bare_then : Field → List ℕ → List ℕ
bare_then f t = digits length_digits (line_size f) ++ (digits label_digits f.label ++ (f.content ++ t))

-- the lines joined; none after the last (E3a)
unfoldable pub stream : List Field → List ℕ
stream [] = []
stream (f ∷ []) = bare_then f []
stream (f ∷ g ∷ fs) = bare_then f (separator ∷ stream (g ∷ fs))

-- what one byte of the data stands for: 1Ch for 0Dh 0Ah, any other for itself; and then `t`
abbrev pub restore_then : ℕ → List ℕ → List ℕ
restore_then b t = cond (eqb b separator) (cr ∷ lf ∷ t) (b ∷ t)

-- the bytes of a set that these data stand for. The 0Dh 0Ah of the last line isn't among them.
unfoldable pub restored : List ℕ → List ℕ
restored [] = []
restored (b ∷ bs) = restore_then b (restored bs)

-- 1Ch or 20h and over: only the separator of lines may be under 20h (E3d)
abbrev pub data_byte : ℕ → Bool
data_byte b = eqb b separator || leb least_byte b

abbrev pub all_data : List ℕ → Bool
all_data [] = true
all_data (b ∷ bs) = data_byte b && all_data bs
