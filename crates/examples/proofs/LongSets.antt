-- Sets of 512 lines, the most that a set can have (B2 of docs/DECISIONS.md), and lists of more than 511 entries (B28): a table and a theorem for each.
-- The other open points are in crate `meaning`; these stand apart, since sets of this size take long to compute.
use mathlib.Core.Path.{◌≡◌, refl}
use mathlib.Core.List.{List, [], ◌∷◌, ◌++◌}
use Prim.Native.Nat.{ℕ}
use lib.ListN.{replicate}
use Rattle.meaning.specs.Field.{Field}
use Rattle.meaning.specs.Computes.{computes}
use Rattle.meaning.proofs.Asking.{text, line, set_of, entries_of, judging, writing, accepted, refused_by, answer, Example, example, asked, expected}

-- 512 lines, 5,135 bytes
full : List ℕ
full = set_of (line 8000 "6310" ∷ line 9218 "02.10" ∷ line 3000 "7" ∷ line 8402 "EKG01" ∷ replicate 507 (line 6220 "x"))

longest : List Example
unfolding full
longest =
    -- then nothing, another set, anything else; the last is in `lines` of Decided as well, with the other points on lines
    example (judging full) (accepted 5135 512 6310)
    ∷ example (judging (full ++ text "xyz8000")) (accepted 5135 512 6310)
    ∷ example (judging (full ++ text "x")) (refused_by 7 5135 0) ∷ []

longest-decided : asked longest ≡ expected longest
unfolding computes answer longest full
longest-decided = refl

-- a list that starts a 6300 set, and then others
list : List Field → List ℕ
list more = entries_of (line 8000 "6300" ∷ more)

long : List Example
unfolding list
long =
    -- B28: entry by entry, each by 7, 21, 6
    example (writing (list (replicate 511 (line 3000 "0"))) 0) (refused_by 7 2558 0)
    ∷ example (writing (list (line 3000 "\t" ∷ replicate 511 (line 3000 "0"))) 0) (refused_by 6 12 0)
    ∷ example (writing (list (replicate 510 (line 3000 "0")) ++ (1 ∷ [])) 0) (refused_by 7 2558 0) ∷ []

long-decided : asked long ≡ expected long
unfolding computes answer long list
long-decided = refl
