-- The open points of the day file that docs/DECISIONS.md decides, E1a to E1i, each with inputs that show the decision, and the order of the refusals if two apply: a table and a
-- theorem for each call. A file of 2,049 sets is not computed: 23 is shown with fewer sets that may come, and in appending by the count.
use mathlib.Core.Path.{◌≡◌, refl}
use mathlib.Core.List.{List, [], ◌∷◌, ◌++◌}
use Prim.Native.Nat.{ℕ}
use lib.ListN.{replicate}
use Rattle.meaning.specs.Field.{field}
use Rattle.meaning.specs.Computes.{computes}
use Rattle.meaning.proofs.Asking.{text, line, set_of, before, refused_by, holds, answer}
use Rattle.meaning_day.specs.DayComputes.{day_computes}
use Rattle.meaning_day.proofs.DayAsking.{building, appending, finding, sets_up_to, day_answer, DayExample, example, asked, expected}

-- ---- the files that the points are shown on

-- the paper's set P: type 6300, 51 bytes, patient 0; its 3000 content stands at 48
p : List ℕ
p = text "01380006300\r\n014810000051\r\n014921802.10\r\n01030000\r\n"

-- a set of type 6310, 65 bytes, patient 7; its 3000 content stands at 34
q : List ℕ
q = set_of (line 8000 "6310" ∷ line 3000 "7" ∷ line 9218 "02.10" ∷ line 8402 "EKG01" ∷ [])

-- their entries, and that of another P after both
entry1 : List ℕ
entry1 = 0 ∷ 51 ∷ 6300 ∷ 48 ∷ []

entry2 : List ℕ
entry2 = 51 ∷ 65 ∷ 6310 ∷ 85 ∷ []

entry3 : List ℕ
entry3 = 116 ∷ 51 ∷ 6300 ∷ 164 ∷ []

-- a file of three sets, 167 bytes, and its index
day : List ℕ
unfolding p q
day = p ++ q ++ p

index : List ℕ
unfolding entry1 entry2 entry3
index = entry1 ++ entry2 ++ entry3

-- sets with a fault: 17 at 13, 16 at 0 (label 3000), 10 at their end, 6 at 49, 24 at 59, 2 at 0
wrong_sum : List ℕ
wrong_sum = text "01380006300\r\n014810000052\r\n014921802.10\r\n01030000\r\n"

no_patient : List ℕ
no_patient = set_of (line 8000 "6300" ∷ line 9218 "02.10" ∷ [])

one_line : List ℕ
one_line = text "01380006300\r\n"

low_byte : List ℕ
low_byte = set_of (line 8000 "6300" ∷ line 9218 "02.10" ∷ field 3000 (32 ∷ 31 ∷ []) ∷ [])

high_byte : List ℕ
high_byte = set_of (line 8000 "6300" ∷ line 9206 "1" ∷ line 9218 "02.10" ∷ field 3000 (77 ∷ 128 ∷ []) ∷ [])

no_length : List ℕ
no_length = text "xyz8000"

-- ---- building

buildings : List DayExample
unfolding p q entry1 entry2 day index wrong_sum no_patient low_byte high_byte no_length
buildings =
    -- E1i: four numbers a set; all others stay as they were; one to three numbers after the last four are no room
    example (building day (replicate 13 before)) (holds 3 (index ++ (before ∷ [])))
    ∷ example (building day (replicate 12 before)) (holds 3 index)
    ∷ example (building day (replicate 11 before)) (refused_by 22 3 0)
    ∷ example (building p (replicate 3 before)) (refused_by 22 1 0)
    ∷ example (building p (replicate 7 before)) (holds 1 (entry1 ++ replicate 3 before))
    -- E1e: "a file of no bytes has none"
    ∷ example (building [] (replicate 5 before)) (holds 0 (replicate 5 before))
    ∷ example (building [] []) (holds 0 [])
    -- the set's own, placed in the file; the first set's before the second's; all before 22
    ∷ example (building (p ++ wrong_sum) (replicate 8 before)) (refused_by 17 64 0)
    ∷ example (building (p ++ no_patient) (replicate 8 before)) (refused_by 16 51 3000)
    ∷ example (building (p ++ low_byte) (replicate 8 before)) (refused_by 6 100 0)
    ∷ example (building (p ++ high_byte) (replicate 8 before)) (refused_by 24 110 0)
    ∷ example (building (wrong_sum ++ no_length) (replicate 8 before)) (refused_by 17 13 0)
    ∷ example (building (p ++ no_length) []) (refused_by 2 51 0)
    ∷ example (building (p ++ q) []) (refused_by 22 2 0)
    -- E1a: a set that is one too many is asked for its own faults first, and then nothing after it
    ∷ example (sets_up_to 1 (p ++ no_length)) (refused_by 2 51 0)
    ∷ example (sets_up_to 1 (p ++ q)) (refused_by 23 51 0)
    ∷ example (sets_up_to 1 (p ++ q ++ no_length)) (refused_by 23 51 0)
    ∷ example (sets_up_to 0 q) (refused_by 23 0 0)
    ∷ example (sets_up_to 2 (p ++ q)) (holds 2 (entry1 ++ entry2))
    ∷ example (sets_up_to 1 p) (holds 1 entry1)
    ∷ example (sets_up_to 0 []) (holds 0 []) ∷ []

buildings-decided : asked buildings ≡ expected buildings
unfolding computes day_computes answer day_answer buildings p q entry1 entry2 entry3 day index wrong_sum no_patient low_byte high_byte no_length
buildings-decided = refl

-- ---- appending

appends : List DayExample
unfolding p q entry1 entry2 day index wrong_sum no_patient one_line low_byte high_byte no_length
appends =
    -- just what building gives, whatever stands after the old index; also if both are refused
    example (appending (p ++ q) 51 (entry1 ++ replicate 6 before) 1) (holds 2 (entry1 ++ entry2 ++ replicate 2 before))
    ∷ example (building (p ++ q) (entry1 ++ replicate 6 before)) (holds 2 (entry1 ++ entry2 ++ replicate 2 before))
    ∷ example (appending (p ++ q) 51 (entry1 ++ replicate 3 before) 1) (refused_by 22 2 0)
    ∷ example (building (p ++ q) (entry1 ++ replicate 3 before)) (refused_by 22 2 0)
    ∷ example (appending day 116 (entry1 ++ entry2 ++ replicate 4 before) 2) (holds 3 index)
    ∷ example (appending p 0 (replicate 4 before) 0) (holds 1 entry1)
    -- E1a: bytes that start a set are refused alike
    ∷ example (appending (p ++ wrong_sum) 51 (entry1 ++ replicate 4 before) 1) (refused_by 17 64 0)
    ∷ example (building (p ++ wrong_sum) (entry1 ++ replicate 4 before)) (refused_by 17 64 0)
    ∷ example (appending (p ++ no_length) 51 (entry1 ++ replicate 4 before) 1) (refused_by 2 51 0)
    ∷ example (building (p ++ no_length) (entry1 ++ replicate 4 before)) (refused_by 2 51 0)
    -- E1b: 18 before all, then the set's own, placed in the file, 18, 23, 22
    ∷ example (appending (p ++ no_length) 59 [] 2048) (refused_by 18 58 0)
    ∷ example (appending (p ++ no_patient) 51 [] 2048) (refused_by 16 51 3000)
    ∷ example (appending (p ++ one_line) 51 [] 2048) (refused_by 10 64 0)
    ∷ example (appending (p ++ low_byte) 51 [] 2048) (refused_by 6 100 0)
    ∷ example (appending (p ++ high_byte) 51 [] 2048) (refused_by 24 110 0)
    ∷ example (appending (p ++ wrong_sum ++ p) 51 [] 2048) (refused_by 17 64 0)
    ∷ example (appending (p ++ q ++ no_length) 51 [] 2048) (refused_by 18 65 0)
    ∷ example (appending (p ++ q) 51 [] 2048) (refused_by 23 51 0)
    ∷ example (appending (p ++ q) 51 [] 1) (refused_by 22 2 0)
    -- E1c: the length of the appended set, not an offset in the file
    ∷ example (appending day 51 (entry1 ++ replicate 8 before) 1) (refused_by 18 65 0)
    ∷ example (appending day 0 (replicate 8 before) 0) (refused_by 18 51 0)
    -- E1d: the lent index is not looked at; a count of 2,048 or more is 23, whatever is lent; else the need is one more than the count, also if that is over the room
    ∷ example (appending (p ++ q) 51 (1 ∷ 2 ∷ 3 ∷ 4 ∷ replicate 4 before) 1) (holds 2 (1 ∷ 2 ∷ 3 ∷ 4 ∷ entry2))
    ∷ example (appending (p ++ q) 51 (replicate 8 before) 0) (holds 1 (entry2 ++ replicate 4 before))
    ∷ example (appending (p ++ q) 51 (entry1 ++ replicate 8 before) 2) (holds 3 (entry1 ++ replicate 4 before ++ entry2))
    ∷ example (appending (p ++ q) 51 (entry1 ++ replicate 4 before) 2048) (refused_by 23 51 0)
    ∷ example (appending (p ++ q) 51 (entry1 ++ replicate 4 before) 2049) (refused_by 23 51 0)
    ∷ example (appending (p ++ q) 51 (entry1 ++ replicate 4 before) 2047) (refused_by 22 2048 0)
    -- nor are the bytes before the old length
    ∷ example (appending day 116 (replicate 4 before) 0) (holds 1 (116 ∷ 51 ∷ 6300 ∷ 164 ∷ []))
    -- E1e: nothing after the old length
    ∷ example (appending p 51 (entry1 ++ replicate 4 before) 1) (refused_by 1 51 0)
    ∷ example (appending [] 0 (replicate 4 before) 0) (refused_by 1 0 0)
    -- E1f: a line that would belong to the set before it is not appended; to building it is one more line of that set, which then has a fault of its own
    ∷ example (appending (p ++ text "0109206x\r\n") 51 (entry1 ++ replicate 4 before) 1) (refused_by 8 51 0)
    ∷ example (building (p ++ text "0109206x\r\n") (entry1 ++ replicate 4 before)) (refused_by 14 51 9206)
    ∷ example (appending (p ++ text "01092062\r\n") 51 (entry1 ++ replicate 4 before) 1) (refused_by 8 51 0)
    ∷ example (building (p ++ text "01092062\r\n") (entry1 ++ replicate 4 before)) (refused_by 17 13 0) ∷ []

appends-decided : asked appends ≡ expected appends
unfolding computes day_computes answer day_answer appends p q entry1 entry2 entry3 day index wrong_sum no_patient one_line low_byte high_byte no_length
appends-decided = refl

-- ---- looking up

-- an entry with this place; nothing else of it is looked at
place_at : ℕ → List ℕ
place_at n = 9 ∷ 9 ∷ 9 ∷ n ∷ []

lookups : List DayExample
unfolding p q entry1 entry2 entry3 day index place_at
lookups =
    -- E1h: all that match, by their numbers from 1, lowest first; the other numbers stay as they were; 22 has those that match as its need
    example (finding day index (text "0") (replicate 4 before)) (holds 2 (1 ∷ 3 ∷ replicate 2 before))
    ∷ example (finding day index (text "7") (replicate 1 before)) (holds 1 (2 ∷ []))
    ∷ example (finding day index (text "0") (replicate 1 before)) (refused_by 22 2 0)
    ∷ example (finding day index (text "1") (replicate 1 before)) (holds 0 (replicate 1 before))
    ∷ example (finding day index (text "1") []) (holds 0 [])
    ∷ example (finding day [] (text "0") (replicate 1 before)) (holds 0 (replicate 1 before))
    -- an entry that stands twice; another order; one to three numbers are no entry
    ∷ example (finding day (entry1 ++ entry1 ++ entry2) (text "0") (replicate 3 before)) (holds 2 (1 ∷ 2 ∷ before ∷ []))
    ∷ example (finding day (entry2 ++ entry1) (text "0") (replicate 1 before)) (holds 1 (2 ∷ []))
    ∷ example (finding day (entry2 ++ (0 ∷ 51 ∷ 6300 ∷ [])) (text "0") (replicate 1 before)) (holds 0 (replicate 1 before))
    -- E1g: the whole content and its end, not only its start or its end
    ∷ example (finding day (entry1 ++ place_at 46) (text "00") (replicate 1 before)) (holds 0 (replicate 1 before))
    ∷ example (finding day (place_at 47 ++ place_at 48) (text "00") (replicate 1 before)) (holds 1 (1 ∷ []))
    ∷ example (finding day (place_at 20) (text "0005") (replicate 1 before)) (holds 0 (replicate 1 before))
    ∷ example (finding day (place_at 20) (text "00051") (replicate 1 before)) (holds 1 (1 ∷ []))
    -- bytes that stand there, but one of them is under 20h
    ∷ example (finding day entry1 (text "0\r\n01380006310") (replicate 1 before)) (holds 0 (replicate 1 before))
    ∷ example (finding day entry1 (text "0\r\n01380006310\r\n") []) (holds 0 [])
    -- no asked bytes match at 0Dh 0Ah
    ∷ example (finding day (place_at 48 ++ place_at 49 ++ place_at 50 ++ place_at 51) [] (replicate 1 before)) (holds 1 (2 ∷ []))
    -- too few bytes, or none, at the place
    ∷ example (finding day (place_at 165 ++ place_at 166 ++ place_at 167 ++ place_at 1000) [] (replicate 2 before)) (holds 1 (1 ∷ before ∷ []))
    ∷ example (finding (text "0") (place_at 0) (text "0") (replicate 1 before)) (holds 0 (replicate 1 before))
    ∷ example (finding [] (place_at 0) [] (replicate 1 before)) (holds 0 (replicate 1 before))
    -- an index of another file, and a file that is none: only the place is looked at, no set is judged
    ∷ example (finding (text "x7\r\n") (place_at 1 ++ index) (text "7") (replicate 1 before)) (holds 1 (1 ∷ [])) ∷ []

lookups-decided : asked lookups ≡ expected lookups
unfolding computes day_computes answer day_answer lookups p q entry1 entry2 entry3 day index place_at
lookups-decided = refl
