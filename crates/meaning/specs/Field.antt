-- A set, a list and a sheet are lists of fields: labels with contents. In a sheet the label is a line number.
use Rattle.std.specs.Prelude.{Bool, true, false, ◌||◌, List, [], ◌∷◌, map, ℕ, get_or, eqb}

pub record Field : Type 0 where
  pub label : ℕ
  pub content : List ℕ

abbrev pub field : ℕ → List ℕ → Field
field l c = record { label = l; content = c }

abbrev pub labels : List Field → List ℕ
labels fs = map (λ (f : Field). f.label) fs

-- what stands after the last line
abbrev pub no_field : Field
no_field = field 0 []

-- "Line numbers count from 1." Here a line is named by how many stand before it: line number n has `pred n`. Label and content of the line that has k before it:
abbrev pub label_at_line : List Field → ℕ → ℕ
label_at_line fs k = (get_or fs k no_field).label

abbrev pub content_at_line : List Field → ℕ → List ℕ
content_at_line fs k = (get_or fs k no_field).content

-- x is among xs
unfoldable pub elem : ℕ → List ℕ → Bool
elem x [] = false
elem x (y ∷ ys) = eqb x y || elem x ys

abbrev pub is_nil : List ℕ → Bool
is_nil [] = true
is_nil (b ∷ bs) = false
