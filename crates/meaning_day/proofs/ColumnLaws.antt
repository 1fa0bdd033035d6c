-- An index in a slice of numbers, four a set: how many entries the numbers hold, and which. These laws know nothing of sets.
use mathlib.Core.Path.{◌≡◌, refl, ap}
use mathlib.Core.List.{List, [], ◌∷◌, ◌++◌}
use Prim.Native.Nat.{ℕ, zero, suc, ◌*◌, ◌/◌, ◌≤◌}
use native.Mathlib.Omega.{arith}
use lib.ListN.{length, take}
use Rattle.meaning_day.specs.declared.DayEntry.{DayEntry}
use Rattle.meaning_day.specs.DayCalls.{columns, entries_in}

-- ---- how many

-- an index has four numbers a set
pub length-columns : (es : List DayEntry) → length (columns es) ≡ length es * 4
length-columns [] = refl
length-columns (e ∷ es) = omega (arith, length-columns es)

-- numbers hold a quarter as many entries, and one to three numbers more count nothing
pub length-entries-in : (ns : List ℕ) → length (entries_in ns) ≡ length ns / 4
unfolding entries_in
length-entries-in [] = refl
length-entries-in (a ∷ []) = refl
length-entries-in (a ∷ b ∷ []) = refl
length-entries-in (a ∷ b ∷ c ∷ []) = refl
length-entries-in (a ∷ b ∷ c ∷ d ∷ ns) = omega (arith, length-entries-in ns)

-- the numbers of all entries are there
pub entries-within : (ns : List ℕ) → length (entries_in ns) * 4 ≤ length ns
entries-within ns = omega (arith, length-entries-in ns)

-- ---- entries of columns, and columns of entries

pub columns-append : (es fs : List DayEntry) → columns (es ++ fs) ≡ columns es ++ columns fs
columns-append [] fs = refl
columns-append (e ∷ es) fs = ap (λ (ns : List ℕ). e.offset ∷ e.length ∷ e.settype ∷ e.place ∷ ns) (columns-append es fs)

-- what was laid out is read back, and then what the numbers after it hold
pub entries-columns : (es : List DayEntry) (ns : List ℕ) → entries_in (columns es ++ ns) ≡ es ++ entries_in ns
unfolding entries_in
entries-columns [] ns = refl
entries-columns (e ∷ es) ns = ap (λ (xs : List DayEntry). e ∷ xs) (entries-columns es ns)

four-more : (k : ℕ) → suc k * 4 ≡ suc (suc (suc (suc (k * 4))))
four-more k = omega arith

-- the first numbers, four for each of k entries, are those of the first k entries
pub take-columns : (k : ℕ) (ns : List ℕ) → k ≤ length (entries_in ns) → take (k * 4) ns ≡ columns (take k (entries_in ns))
unfolding entries_in
take-columns zero ns h = refl
take-columns (suc k) [] h = absurd (omega arith)
take-columns (suc k) (a ∷ []) h = absurd (omega arith)
take-columns (suc k) (a ∷ b ∷ []) h = absurd (omega arith)
take-columns (suc k) (a ∷ b ∷ c ∷ []) h = absurd (omega arith)
take-columns (suc k) (a ∷ b ∷ c ∷ d ∷ ns) h =
    rw (four-more k) (ap (λ (xs : List ℕ). a ∷ b ∷ c ∷ d ∷ xs) (take-columns k ns (omega arith)))
