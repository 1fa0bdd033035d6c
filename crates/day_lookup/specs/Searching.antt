-- The walks of this crate: whether the asked bytes stand at a place, and the numbers of the entries for which they do. That they are asked without a byte under 20h is a test of its own
-- (`found-standing` in proofs/SearchLaws).
use Rattle.std.specs.Prelude.{Bool, true, false, List, [], ◌∷◌, ◌++◌, ℕ, suc, ◌+◌, length, take, drop}
use Rattle.meaning.specs.Lines.{line_end, cr, lf}
use Rattle.meaning.specs.Kinds.{same_bytes}
use Rattle.meaning_day.specs.declared.DayEntry.{DayEntry}

-- "the asked bytes .. and 0Dh 0Ah stand at its place"
unfoldable pub stands_at : List ℕ → ℕ → List ℕ → Bool
stands_at f place c = same_bytes (take (length c + line_end) (drop place f)) (c ++ (cr ∷ lf ∷ []))

-- a number if it is so, else none
abbrev pub number_if : Bool → ℕ → List ℕ
number_if true n = n ∷ []
number_if false n = []

-- the numbers of the entries that have the asked bytes at their place; the first of the entries has number k
unfoldable pub standing : List ℕ → List ℕ → ℕ → List DayEntry → List ℕ
standing f c k [] = []
standing f c k (e ∷ es) = number_if (stands_at f e.place c) k ++ standing f c (suc k) es
