-- The open points that docs/DECISIONS.md decides, each with inputs that show the decision, and the order of the rules if two apply: a table and a theorem for each part.
-- B1 to B53 and E2a to E2d are the names in docs/DECISIONS.md, which says where a point is shown that is not named here. Contents alone (B25 to B27) are in FieldExamples,
-- sets of 512 lines and lists of over 511 entries (B28) in LongSets, both in crate `examples`.
use mathlib.Core.Path.{◌≡◌, refl}
use mathlib.Core.List.{List, [], ◌∷◌, ◌++◌}
use Prim.Native.Nat.{ℕ}
use Prim.Native.String.{String}
use lib.ListN.{replicate}
use Rattle.meaning.specs.Field.{Field, field}
use Rattle.meaning.specs.Computes.{computes}
use Rattle.meaning.proofs.Asking.{text, line, set_of, entries_of, judging, indexing, listing, writing, correcting, viewing, accepted, refused_by}
use Rattle.meaning.proofs.Asking.{headers, holds, shows, answer, Example, example, asked, expected}

-- ---- sets that the points are shown on

-- the paper's set P as a list, and its bytes
p_lines : List Field
p_lines = line 8000 "6300" ∷ line 9218 "02.10" ∷ line 3000 "0" ∷ []

p : List ℕ
p = text "01380006300\r\n014810000051\r\n014921802.10\r\n01030000\r\n"

-- a 6310 set of five lines and 65 bytes, and then others
b : List Field → List ℕ
b more = set_of (line 8000 "6310" ∷ line 9218 "02.10" ∷ line 3000 "7" ∷ line 8402 "EKG01" ∷ more)

-- ---- "Line and set"

lines : List Example
unfolding p b p_lines
lines =
    -- B1: only bytes four to seven of the next line count
    example (judging (p ++ text "xyz8000")) (accepted 51 4 6300)
    ∷ example (judging (p ++ text "013800")) (refused_by 3 51 0)
    -- B2: 512 lines, then what is no set; then nothing, and another set: LongSets
    ∷ example (judging (b (replicate 507 (line 6220 "x")) ++ text "x")) (refused_by 7 5135 0)
    -- B3: all lines before 8; the set may end early
    ∷ example (judging (text "014810000051\r\n0993000")) (refused_by 3 14 0)
    ∷ example (judging (text "014810000051\r\n01380006300\r\n")) (refused_by 8 0 0)
    -- B4
    ∷ example (judging (set_of (line 8000 "63000" ∷ []))) (refused_by 9 0 0)
    ∷ example (judging (set_of (line 8000 "630" ∷ []))) (refused_by 9 0 0)
    ∷ example (judging (set_of (line 8000 "6303" ∷ []))) (refused_by 9 0 0)
    -- B5
    ∷ example (judging (text "01380006300\r\n")) (refused_by 10 13 0)
    ∷ example (judging (text "01380006300\r\n01030000\r\n014810000051\r\n")) (refused_by 10 13 0)
    -- B6
    ∷ example (judging (b (line 8100 "00079" ∷ []))) (refused_by 13 65 8100)
    -- B7
    ∷ example (judging (text "01380006300\r\n01381000051\r\n01392182.10\r\n")) (refused_by 14 13 8100)
    -- B11
    ∷ example (judging (set_of (line 8000 "6300" ∷ line 9218 "02.10" ∷ field 3000 (127 ∷ 255 ∷ 32 ∷ []) ∷ []))) (accepted 53 4 6300)
    ∷ example (judging (set_of (line 8000 "6300" ∷ line 9218 "02.10" ∷ field 3000 (32 ∷ 31 ∷ []) ∷ []))) (refused_by 6 49 0) ∷ []

lines-decided : asked lines ≡ expected lines
unfolding computes answer lines p b p_lines
lines-decided = refl

-- ---- "Groups"

-- for each point sets that show it, each with its answer; `groups-decided` computes them all
groups : List Example
unfolding b
groups =
    -- B12
    example (judging (b (line 8410 "A" ∷ line 8461 "1" ∷ []))) (refused_by 16 65 8421)
    ∷ example (judging (b (line 8410 "A" ∷ line 8461 "1" ∷ line 8421 "l" ∷ []))) (accepted 95 8 6310)
    -- B13
    ∷ example (judging (b (line 8410 "A" ∷ line 8438 " " ∷ []))) (refused_by 16 65 8437)
    -- B14
    ∷ example (judging (b (line 8411 "A" ∷ []))) (refused_by 12 65 8411)
    -- B15
    ∷ example (judging (b (line 8410 "A" ∷ line 8470 "x" ∷ line 8470 "y" ∷ []))) (accepted 95 8 6310)
    -- B16
    ∷ example (judging (b (line 8410 "A" ∷ line 8990 "x" ∷ line 8420 "1" ∷ []))) (refused_by 12 85 8420)
    -- B17
    ∷ example (judging (b (line 8410 "A" ∷ line 8412 "x" ∷ []))) (refused_by 11 75 8412)
    -- B18
    ∷ example (judging (b (line 8410 "A" ∷ line 6330 "x" ∷ line 6331 "y" ∷ line 8420 "1" ∷ []))) (refused_by 12 95 8420)
    -- B19
    ∷ example (judging (b (line 6330 "x" ∷ []))) (refused_by 16 65 6331)
    ∷ example (judging (b (line 6330 "x" ∷ line 6332 "x" ∷ line 6331 "y" ∷ []))) (refused_by 12 85 6331)
    ∷ example (judging (b (line 6330 "x" ∷ line 6333 "y" ∷ []))) (refused_by 12 75 6333)
    ∷ example (judging (b (line 6330 "x" ∷ line 6331 "y" ∷ line 6331 "y" ∷ []))) (refused_by 12 85 6331)
    -- B20: a pair before a group, a group before a pair
    ∷ example (judging (b (line 6344 "x" ∷ line 8410 "A" ∷ line 8420 "1" ∷ []))) (refused_by 16 65 6345)
    ∷ example (judging (b (line 8410 "A" ∷ line 8420 "1" ∷ line 6344 "x" ∷ []))) (refused_by 16 65 8421)
    -- set level comes before groups; the lowest label comes first
    ∷ example (judging (set_of (line 8000 "6310" ∷ line 9218 "02.10" ∷ line 3000 "7" ∷ line 6302 "x" ∷ []))) (refused_by 16 0 8402)
    ∷ example (judging (set_of (line 8000 "6310" ∷ []))) (refused_by 16 0 3000)
    ∷ example (judging (set_of (line 8000 "6310" ∷ line 3000 "7" ∷ []))) (refused_by 16 0 8402)
    ∷ example (judging (b (line 6302 "x" ∷ []))) (refused_by 16 65 6303)
    -- of 8421 and 8437 too, which are printed the other way round
    ∷ example (judging (b (line 8410 "A" ∷ line 8438 "x" ∷ line 8420 "1" ∷ []))) (refused_by 16 65 8421)
    -- B21
    ∷ example (judging (b (line 6330 "x" ∷ line 6331 "y" ∷ line 6330 "x" ∷ line 6331 "y" ∷ []))) (accepted 105 9 6310)
    ∷ example (judging (set_of (line 8000 "6301" ∷ line 6330 "x" ∷ []))) (refused_by 11 27 6330)
    -- B22
    ∷ example (judging (b (line 6226 "7" ∷ line 6228 "x" ∷ []))) (accepted 85 7 6310)
    -- B23
    ∷ example (judging (b (line 6302 "x" ∷ line 6303 "A" ∷ line 6304 "1" ∷ line 6305 "1" ∷ line 6305 "1" ∷ []))) (refused_by 13 105 6305)
    ∷ example (judging (b (line 6302 "x" ∷ line 6303 "A" ∷ line 6305 "1" ∷ line 6330 "n" ∷ line 6331 "c" ∷ []))) (refused_by 16 65 6304)
    -- B24: two tests with the same name stay two; a name is the header of its pair
    ∷ example (indexing (b (line 8410 "A" ∷ line 8411 "x" ∷ line 8410 "A" ∷ line 8411 "x" ∷ line 6330 "n" ∷ line 6331 "c" ∷ line 6220 "z" ∷ [])) 12)
    (headers (0 ∷ 0 ∷ 0 ∷ 0 ∷ 0 ∷ 0 ∷ 6 ∷ 0 ∷ 8 ∷ 0 ∷ 10 ∷ 0 ∷ []))
    -- B33, B35: the need of the index is the lines of the first set
    ∷ example (indexing (b [] ++ b []) 4) (refused_by 22 5 0) ∷ []

groups-decided : asked groups ≡ expected groups
unfolding computes answer groups b
groups-decided = refl

-- ---- if two rules apply, the first in the paper's order answers

orders : List Example
unfolding p b
orders =
    -- 2 before 3, 3 before 4, 4 before 5, 5 before 6, 6 before 8
    example (judging (text "0a980006300")) (refused_by 2 0 0)
    ∷ example (judging (text "0138000")) (refused_by 3 0 0)
    ∷ example (judging (text "0138x006300\r ")) (refused_by 4 0 0)
    ∷ example (judging (text "0138x0063\t0\r\n")) (refused_by 5 0 0)
    ∷ example (judging (text "01390006\t00\r\n")) (refused_by 6 8 0)
    -- 8 before 9, 9 before 10, 10 before 11
    ∷ example (judging (text "01081000\r\n")) (refused_by 8 0 0)
    ∷ example (judging (text "01380006303\r\n01030000\r\n")) (refused_by 9 0 0)
    ∷ example (judging (text "01380006300\r\n0109999x\r\n")) (refused_by 10 13 0)
    -- an earlier line's 14 before a later one's 11; 11, 12 and 13 before 14
    ∷ example (judging (b (line 8418 "xy" ∷ []))) (refused_by 12 65 8418)
    ∷ example (judging (b (line 3000 "01234567890" ∷ []))) (refused_by 13 65 3000)
    ∷ example (judging (b (line 8412 "0123456789012345678901234567890123456789012345678901234567890" ∷ []))) (refused_by 11 65 8412)
    ∷ example (judging (b (line 6200 "00011999" ∷ line 8412 "x" ∷ []))) (refused_by 14 65 6200)
    -- 14 before 15, 15 before 16, 16 before 17
    ∷ example (judging (set_of (line 8000 "6300" ∷ line 9218 "2.10" ∷ []))) (refused_by 14 27 9218)
    ∷ example (judging (set_of (line 8000 "6300" ∷ line 9218 "02.00" ∷ []))) (refused_by 15 27 9218)
    ∷ example (judging (text "01380006300\r\n014810000040\r\n014921802.10\r\n")) (refused_by 16 0 3000) ∷ []

orders-decided : asked orders ≡ expected orders
unfolding computes answer orders p b
orders-decided = refl

-- ---- list and writer

-- for each point lists and sets that show it, each with its answer; `lists-decided` computes them all
lists : List Example
unfolding p p_lines b
lists =
    -- B34: a set's list, and the set of that list, with zeros after them
    example (listing p 26) (holds 22 (entries_of p_lines ++ replicate 4 0))
    ∷ example (writing (entries_of p_lines) 53) (holds 51 (p ++ replicate 2 0))
    -- B33: what is needed, and a buffer of just that size
    ∷ example (listing p 22) (holds 22 (entries_of p_lines))
    ∷ example (writing (entries_of p_lines) 51) (holds 51 p)
    ∷ example (listing p 21) (refused_by 22 22 0)
    ∷ example (writing (entries_of p_lines) 50) (refused_by 22 51 0)
    -- 1 before all; B28: LongSets
    ∷ example (writing [] 0) (refused_by 1 0 0)
    -- B29
    ∷ example (writing (entries_of (line 8000 "" ∷ [])) 0) (refused_by 9 0 0)
    ∷ example (writing (entries_of (line 8000 "6300" ∷ line 3000 "" ∷ [])) 0) (refused_by 14 8 3000)
    ∷ example (writing (entries_of (line 8000 "6300" ∷ field 3000 (replicate 991 65) ∷ [])) 0) (refused_by 14 8 3000)
    -- B30; B52: the label is that of the entry
    ∷ example (writing (entries_of (line 8100 "00051" ∷ p_lines)) 0) (refused_by 8 0 0)
    ∷ example (writing (entries_of (line 8000 "6300" ∷ line 8100 "00051" ∷ [])) 0) (refused_by 13 8 8100)
    ∷ example (writing (entries_of (line 8000 "6300" ∷ line 9218 "02.10" ∷ line 8000 "6300" ∷ [])) 0) (refused_by 13 17 8000)
    -- B31, and entries that are cut
    ∷ example (writing (entries_of (line 8000 "6300" ∷ line 0 "x" ∷ [])) 0) (refused_by 11 8 0)
    ∷ example (writing (entries_of (line 8000 "6300" ∷ line 10000 "x" ∷ [])) 0) (refused_by 21 8 0)
    ∷ example (writing (entries_of (line 8000 "6300" ∷ []) ++ (1 ∷ 0 ∷ 184 ∷ [])) 0) (refused_by 21 8 0)
    ∷ example (writing (entries_of (line 8000 "6300" ∷ []) ++ (1 ∷ 0 ∷ 184 ∷ 11 ∷ [])) 0) (refused_by 21 8 0)
    -- B32
    ∷ example (writing (entries_of (line 8000 "6300" ∷ line 9218 "02.10" ∷ [])) 0) (refused_by 16 0 3000)
    ∷ example (writing (entries_of (line 8000 "6310" ∷ line 9218 "02.10" ∷ line 3000 "7" ∷ line 8402 "EKG01" ∷ line 8410 "A" ∷ line 8420 "1" ∷ [])) 0) (refused_by 16 31 8421)
    -- B35
    ∷ example (listing (p ++ p) 22) (holds 22 (entries_of p_lines)) ∷ []

lists-decided : asked lists ≡ expected lists
unfolding computes answer lists p p_lines b
lists-decided = refl

-- ---- corrections

corrections : List Example
unfolding p
corrections =
    -- B36
    example (correcting p 9 51 4 []) (refused_by 14 41 3000)
    ∷ example (correcting p 9 51 4 (text "01234567890")) (refused_by 14 41 3000)
    ∷ example (correcting p 9 51 4 (text "01234567890\t")) (refused_by 6 11 0)
    -- B37
    ∷ example (correcting p 9 0 4 (text "1")) (refused_by 1 0 0)
    ∷ example (correcting [] 9 10 4 (text "1")) (refused_by 18 9 0)
    -- B38
    ∷ example (correcting (p ++ p) 0 102 4 (text "1")) (refused_by 18 51 0)
    -- 19 before 20, and the fixed lines
    ∷ example (correcting p 9 51 0 (text "1")) (refused_by 19 51 0)
    ∷ example (correcting p 9 51 5 (text "1")) (refused_by 19 51 0)
    ∷ example (correcting p 9 51 1 (text "\t")) (refused_by 20 0 8000)
    ∷ example (correcting p 9 51 3 (text "02.10")) (refused_by 20 27 9218)
    -- B44: the same content again, a buffer that is just large enough, a shorter content
    ∷ example (correcting p 2 51 4 (text "0")) (holds 51 (p ++ replicate 2 0))
    ∷ example (correcting p 1 51 4 (text "12")) (holds 52 (text "01380006300\r\n014810000052\r\n014921802.10\r\n011300012\r\n"))
    ∷ example (correcting (text "01380006300\r\n014810000052\r\n014921802.10\r\n011300012\r\n") 1 52 4 (text "0")) (holds 51 (p ++ replicate 2 0)) ∷ []

corrections-decided : asked corrections ≡ expected corrections
unfolding computes answer corrections p
corrections-decided = refl

-- ---- views

views : List Example
unfolding p
views =
    -- the set's content, the last pending one; B43: any line
    example (viewing p [] 4) (shows 0 (text "0"))
    ∷ example (viewing p [] 2) (shows 0 (text "00051"))
    ∷ example (viewing p (entries_of (line 4 "1" ∷ line 4 "22" ∷ [])) 4) (shows 1 (text "22"))
    ∷ example (viewing p (entries_of (line 4 "1" ∷ [])) 1) (shows 0 (text "6300"))
    -- the set's own refusals, 18, the asked line
    ∷ example (viewing [] (1 ∷ []) 4) (refused_by 1 0 0)
    ∷ example (viewing (p ++ p) (1 ∷ []) 9) (refused_by 18 51 0)
    ∷ example (viewing p (1 ∷ []) 5) (refused_by 19 51 0)
    ∷ example (viewing p (1 ∷ []) 0) (refused_by 19 51 0)
    -- each entry by 21, 19, 20, 6, 14; B39, B41
    ∷ example (viewing p (entries_of (line 4 "1" ∷ []) ++ (1 ∷ 0 ∷ 4 ∷ [])) 4) (refused_by 21 5 0)
    ∷ example (viewing p (entries_of (line 4 "1" ∷ []) ++ (1 ∷ 0 ∷ 4 ∷ 0 ∷ [])) 4) (refused_by 21 5 0)
    ∷ example (viewing p (entries_of (line 4 "1" ∷ line 5 "1" ∷ [])) 4) (refused_by 19 5 0)
    ∷ example (viewing p (entries_of (line 4 "1" ∷ line 0 "1" ∷ [])) 4) (refused_by 19 5 0)
    ∷ example (viewing p (entries_of (line 4 "1" ∷ line 10000 "1" ∷ [])) 4) (refused_by 19 5 0)
    ∷ example (viewing p (entries_of (line 4 "1" ∷ line 2 "\t" ∷ [])) 4) (refused_by 20 5 8100)
    ∷ example (viewing p (entries_of (line 4 "1" ∷ line 4 "01234567890\t" ∷ [])) 4) (refused_by 6 20 0)
    ∷ example (viewing p (entries_of (line 4 "1" ∷ line 4 "01234567890" ∷ [])) 4) (refused_by 14 5 3000)
    -- B40
    ∷ example (viewing p (entries_of (line 4 "" ∷ line 4 "1" ∷ [])) 4) (refused_by 14 0 3000) ∷ []

views-decided : asked views ≡ expected views
unfolding computes answer views p
views-decided = refl

-- ---- seven bits (request E2)

-- the entries of a 6300 set of five lines: in the set 9206, with this content, stands at 27 and the patient's number at 51
set9206 : String → List ℕ → List Field
set9206 one c = line 8000 "6300" ∷ line 9206 one ∷ line 9218 "02.10" ∷ field 3000 c ∷ []

-- a 6310 set that holds 9206 with content 1, with lines before and after it; the first line after it is at 65 if none stands before it
seven : List Field → List Field → List ℕ
seven earlier later = set_of (line 8000 "6310" ∷ earlier ++ (line 9206 "1" ∷ line 9218 "02.10" ∷ line 8402 "EKG01" ∷ later))

sevens : List Example
unfolding b set9206 seven
sevens =
    -- E2a: at the first byte over 7Fh, without a label; 7Fh is none. On the first line that can have one, before 9206; on a line between others, in its content; on the last; in a group
    example (judging (seven [] (line 3000 "7" ∷ field 6220 (127 ∷ 32 ∷ []) ∷ []))) (accepted 86 7 6310)
    ∷ example (judging (seven (field 3000 (128 ∷ []) ∷ []) (line 6220 "x" ∷ []))) (refused_by 24 34 0)
    ∷ example (judging (seven [] (line 3000 "7" ∷ field 6220 (127 ∷ 128 ∷ 255 ∷ []) ∷ field 6220 (255 ∷ []) ∷ []))) (refused_by 24 83 0)
    ∷ example (judging (seven [] (line 3000 "7" ∷ line 6220 "x" ∷ field 6220 (255 ∷ []) ∷ []))) (refused_by 24 92 0)
    ∷ example (judging (seven [] (line 3000 "7" ∷ line 8410 "A" ∷ field 8411 (65 ∷ 228 ∷ []) ∷ line 6220 "x" ∷ []))) (refused_by 24 93 0)
    -- without 9206, or if it says 2 or 3, every byte up to FFh is fine; so is what follows the set
    ∷ example (judging (b (field 6220 (128 ∷ 255 ∷ []) ∷ []))) (accepted 76 6 6310)
    ∷ example (judging (set_of (set9206 "2" (128 ∷ 255 ∷ [])))) (accepted 62 5 6300)
    ∷ example (judging (set_of (set9206 "3" (128 ∷ 255 ∷ [])))) (accepted 62 5 6300)
    ∷ example (judging (seven [] (line 3000 "7" ∷ []) ++ set_of (set9206 "2" (255 ∷ [])))) (accepted 75 6 6310)
    -- E2c: 6, 14 and 16 before 24, 24 before 17
    ∷ example (judging (set_of (set9206 "1" (200 ∷ 31 ∷ [])))) (refused_by 6 59 0)
    ∷ example (judging (set_of (set9206 "1" (replicate 11 200)))) (refused_by 14 51 3000)
    ∷ example (judging (set_of (line 8000 "6300" ∷ line 9206 "1" ∷ field 3000 (200 ∷ []) ∷ []))) (refused_by 16 0 9218)
    ∷ example (judging (seven [] (field 3000 (200 ∷ []) ∷ line 8410 "A" ∷ line 8420 "1" ∷ []))) (refused_by 16 75 8421)
    ∷ example (judging (text "01380006300\r\n014810000099\r\n01092061\r\n014921802.10\r\n0113000M" ++ (129 ∷ 13 ∷ 10 ∷ []))) (refused_by 24 59 0)
    -- E2d
    ∷ example (judging (seven [] (field 3000 (200 ∷ []) ∷ line 9206 "2" ∷ []))) (refused_by 13 75 9206)
    -- index and list refuse as the set does, before 22
    ∷ example (indexing (set_of (set9206 "1" (77 ∷ 128 ∷ []))) 4) (refused_by 24 59 0)
    ∷ example (listing (set_of (set9206 "1" (77 ∷ 128 ∷ []))) 9) (refused_by 24 59 0)
    -- the writer: the place is in the list; 16 before 24, 24 before 22
    ∷ example (writing (entries_of (set9206 "1" (77 ∷ 128 ∷ []))) 62) (refused_by 24 27 0)
    ∷ example (writing (entries_of (set9206 "1" (77 ∷ 128 ∷ []))) 0) (refused_by 24 27 0)
    ∷ example (writing (entries_of (line 8000 "6300" ∷ field 3000 (128 ∷ []) ∷ line 9218 "02.10" ∷ line 9206 "1" ∷ [])) 62) (refused_by 24 12 0)
    ∷ example (writing (entries_of (line 8000 "6300" ∷ line 9206 "1" ∷ field 3000 (128 ∷ []) ∷ [])) 62) (refused_by 16 0 9218)
    ∷ example (writing (entries_of (set9206 "1" (77 ∷ 127 ∷ []))) 62) (holds 62 (set_of (set9206 "1" (77 ∷ 127 ∷ []))))
    ∷ example (writing (entries_of (set9206 "2" (77 ∷ 128 ∷ []))) 62) (holds 62 (set_of (set9206 "2" (77 ∷ 128 ∷ []))))
    -- E2b: 9206 is fixed, whatever it holds
    ∷ example (correcting (set_of (set9206 "1" (text "7"))) 9 61 3 (text "2")) (refused_by 20 27 9206)
    ∷ example (correcting (set_of (set9206 "2" (text "7"))) 9 61 3 (text "1")) (refused_by 20 27 9206)
    ∷ example (correcting (set_of (set9206 "3" (text "7"))) 9 61 3 (text "1")) (refused_by 20 27 9206)
    -- a correction: the place is in the new content; 6 and 14 before 24, 24 before 22
    ∷ example (correcting (set_of (set9206 "1" (text "7"))) 9 61 5 (56 ∷ 128 ∷ 255 ∷ [])) (refused_by 24 1 0)
    ∷ example (correcting (set_of (set9206 "1" (text "7"))) 9 61 5 (200 ∷ 31 ∷ [])) (refused_by 6 1 0)
    ∷ example (correcting (set_of (set9206 "1" (text "7"))) 9 61 5 (replicate 11 128)) (refused_by 14 51 3000)
    ∷ example (correcting (set_of (set9206 "1" (text "7"))) 0 61 5 (56 ∷ 128 ∷ [])) (refused_by 24 1 0)
    ∷ example (correcting (set_of (set9206 "1" (text "7"))) 0 61 5 (56 ∷ 127 ∷ [])) (refused_by 22 62 0)
    ∷ example (correcting (set_of (set9206 "1" (text "7"))) 2 61 5 (56 ∷ 127 ∷ [])) (holds 62 (set_of (set9206 "1" (56 ∷ 127 ∷ [])) ++ (0 ∷ [])))
    ∷ example (correcting (set_of (set9206 "2" (text "7"))) 2 61 5 (56 ∷ 128 ∷ [])) (holds 62 (set_of (set9206 "2" (56 ∷ 128 ∷ [])) ++ (0 ∷ [])))
    ∷ example (correcting (set_of (set9206 "1" (128 ∷ []))) 9 61 5 (text "7")) (refused_by 24 58 0)
    -- an entry of a sheet: the place is in the sheet; 20 and 14 before 24; an entry that does not count is asked, too
    ∷ example (viewing (set_of (set9206 "1" (text "7"))) (entries_of (line 5 "8" ∷ field 5 (56 ∷ 128 ∷ []) ∷ line 5 "9" ∷ [])) 5) (refused_by 24 10 0)
    ∷ example (viewing (set_of (set9206 "1" (text "7"))) (entries_of (line 5 "8" ∷ field 3 (128 ∷ []) ∷ [])) 5) (refused_by 20 5 9206)
    ∷ example (viewing (set_of (set9206 "1" (text "7"))) (entries_of (line 5 "8" ∷ field 5 (replicate 11 128) ∷ [])) 5) (refused_by 14 5 3000)
    ∷ example (viewing (set_of (set9206 "1" (text "7"))) (entries_of (field 5 (56 ∷ 127 ∷ []) ∷ [])) 5) (shows 1 (56 ∷ 127 ∷ []))
    ∷ example (viewing (set_of (set9206 "2" (text "7"))) (entries_of (field 5 (56 ∷ 128 ∷ []) ∷ [])) 5) (shows 1 (56 ∷ 128 ∷ []))
    ∷ example (viewing (set_of (set9206 "1" (128 ∷ []))) [] 5) (refused_by 24 58 0) ∷ []

sevens-decided : asked sevens ≡ expected sevens
unfolding computes answer sevens b set9206 seven
sevens-decided = refl
