-- The five set tables (chapter 3 of the QMS description) as printed there, and for each row sets in which its line is absent, in place, again and out of place.
-- The rows are copied from the documents. Of what must be answered for a set, the number, the line and the label follow from the printed rows alone. Its place and the set's length
-- are counted on the bytes that `render` and `with_sum` of specs/ write, as the set itself is made; that these write a set as the paper says is shown on texts, in Examples of `meaning`.
use mathlib.Core.Path.{◌≡◌, refl}
use mathlib.Core.Bool.{Bool, true, false, cond, not, ◌&&◌, ◌||◌}
use mathlib.Core.List.{List, [], ◌∷◌, ◌++◌, map, flat_map}
use Prim.Native.Nat.{ℕ, suc, pred}
use lib.ListN.{length, take}
use lib.Dec.{eqb}
use Rattle.meaning.specs.Digits.{digits}
use Rattle.meaning.specs.Field.{Field, field}
use Rattle.meaning.specs.Refusals.{refusal}
use Rattle.meaning.specs.Lines.{render}
use Rattle.meaning.specs.Lists.{with_sum}
use Rattle.meaning.specs.Reading.{judge}
use Rattle.meaning.specs.Computes.{computes}
use Rattle.meaning.proofs.Asking.{text}
use Rattle.meaning.specs.Results.{Judged}
use Rattle.std.specs.Prelude.{Err, Ok}

-- ---- how a row is printed

-- where the line stands: at set level, in the group of this header, or in a pair, as its name or as its odd label
data Level : Type 0 where
  top name odd : Level
  under : ℕ → Level

-- the column "Instances": 1 or n
data Occurs : Type 0 where
  one many : Occurs

-- the column "necessary": M, K, or m if one of these labels stands in the group
data Need : Type 0 where
  M K : Need
  m : List ℕ → Need

-- of a range three labels: the ends and one between
record Printed : Type 0 where
  labels : List ℕ
  level : Level
  occurs : Occurs
  need : Need

abbrev row : ℕ → Level → Occurs → Need → Printed
row l v o n = record { labels = l ∷ []; level = v; occurs = o; need = n }

abbrev range : ℕ → ℕ → ℕ → Level → Occurs → Need → Printed
range a b c v o n = record { labels = a ∷ b ∷ c ∷ []; level = v; occurs = o; need = n }

-- ---- the rows

-- "Root Data Request"
printed6300 : List Printed
printed6300 =
    row 8000 top one M
    ∷ row 8100 top one M
    ∷ row 8315 top one K
    ∷ row 8316 top one K
    ∷ row 9206 top one K
    ∷ row 9218 top one M
    ∷ row 3000 top one M ∷ []

-- "Root Data Transfer"
printed6301 : List Printed
printed6301 =
    row 8000 top one M
    ∷ row 8100 top one M
    ∷ row 8315 top one K
    ∷ row 8316 top one K
    ∷ row 9206 top one K
    ∷ row 9218 top one M
    ∷ row 3000 top one M
    ∷ row 3100 top one K
    ∷ row 3101 top one M
    ∷ row 3102 top one M
    ∷ row 3103 top one M
    ∷ row 3104 top one K
    ∷ row 3105 top one K
    ∷ row 3106 top one K
    ∷ row 3107 top one K
    ∷ row 3108 top one K
    ∷ row 3110 top one K
    ∷ row 3622 top one K
    ∷ row 3623 top one K
    ∷ row 3628 top one K ∷ []

-- "New Test Request", in which 8410 is a line like any other
printed6302 : List Printed
printed6302 =
    row 8000 top one M
    ∷ row 8100 top one M
    ∷ row 8315 top one K
    ∷ row 8316 top one K
    ∷ row 9206 top one K
    ∷ row 9218 top one M
    ∷ row 0102 top one K
    ∷ row 0103 top one K
    ∷ row 0132 top one K
    ∷ row 3000 top one M
    ∷ row 3100 top one K
    ∷ row 3101 top one M
    ∷ row 3102 top one M
    ∷ row 3103 top one M
    ∷ row 3104 top one K
    ∷ row 3105 top one K
    ∷ row 3106 top one K
    ∷ row 3107 top one K
    ∷ row 3108 top one K
    ∷ row 3110 top one K
    ∷ row 3622 top one K
    ∷ row 3623 top one K
    ∷ row 3628 top one K
    ∷ row 8402 top one K
    ∷ row 8410 top one K ∷ []

-- "Test Data Transfer", page by page
first6310 : List Printed
first6310 =
    row 8000 top one M
    ∷ row 8100 top one M
    ∷ row 8315 top one K
    ∷ row 8316 top one K
    ∷ row 9206 top one K
    ∷ row 9218 top one M
    ∷ row 0102 top one K
    ∷ row 0103 top one K
    ∷ row 0132 top one K
    ∷ row 3000 top one M
    ∷ row 3100 top one K
    ∷ row 3101 top one K
    ∷ row 3102 top one K
    ∷ row 3103 top one K
    ∷ row 3104 top one K
    ∷ row 3105 top one K
    ∷ row 3106 top one K
    ∷ row 3107 top one K
    ∷ row 3108 top one K
    ∷ row 3110 top one K
    ∷ row 3622 top one K
    ∷ row 3623 top one K
    ∷ row 3628 top one K
    ∷ row 8402 top one M ∷ []

-- 8410 is printed m, required if one of 8411 to 8480 stands: without its 8410 that one is Stray, so 8410 itself is never missing.
-- 8411 is printed V, which is no word of this column: K. 8431 is printed 1 and n: the paper says n. Of 8428 and 8437 the head of Tables speaks.
second6310 : List Printed
second6310 =
    row 6200 top one K
    ∷ row 6201 top one K
    ∷ row 6205 top many K
    ∷ row 6220 top many K
    ∷ row 6221 top many K
    ∷ row 6227 top many K
    ∷ row 6226 top many K
    ∷ row 6228 top many K
    ∷ row 6302 top many K
    ∷ row 6303 (under 6302) one (m (6302 ∷ []))
    ∷ row 6304 (under 6302) one (m (6302 ∷ []))
    ∷ row 6305 (under 6302) one (m (6302 ∷ []))
    ∷ range 6330 6364 6398 name many K
    ∷ range 6331 6365 6399 odd one (m (6330 ∷ 6364 ∷ 6398 ∷ []))
    ∷ row 8410 top many K
    ∷ row 8411 (under 8410) one K
    ∷ row 8428 (under 8410) one K
    ∷ row 8429 (under 8410) one K
    ∷ row 8430 (under 8410) one K
    ∷ row 8431 (under 8410) many K
    ∷ row 8437 (under 8410) one (m (8438 ∷ []))
    ∷ row 8438 (under 8410) many K
    ∷ row 8418 (under 8410) one K
    ∷ row 8420 (under 8410) one K
    ∷ row 8421 (under 8410) one (m (8420 ∷ 8461 ∷ 8462 ∷ [])) ∷ []

-- printed without their columns: under 8410 up to 8480, as the paper says
third6310 : List Printed
third6310 =
    row 8432 (under 8410) one K
    ∷ row 8439 (under 8410) one K
    ∷ row 8460 (under 8410) one K
    ∷ row 8461 (under 8410) one K
    ∷ row 8462 (under 8410) one K
    ∷ row 8470 (under 8410) many K
    ∷ row 8480 (under 8410) many K
    ∷ row 8990 top one K ∷ []

printed6310 : List Printed
unfolding first6310 second6310 third6310
printed6310 = first6310 ++ second6310 ++ third6310

-- "Test Data Display", in which 8432 and 8439 are lines like any other
printed6311 : List Printed
printed6311 =
    row 8000 top one M
    ∷ row 8100 top one M
    ∷ row 8315 top one K
    ∷ row 8316 top one K
    ∷ row 9206 top one K
    ∷ row 9218 top one M
    ∷ row 3000 top one M
    ∷ row 3100 top one K
    ∷ row 3101 top one K
    ∷ row 3102 top one K
    ∷ row 3103 top one K
    ∷ row 3104 top one K
    ∷ row 6200 top one K
    ∷ row 6201 top one K
    ∷ row 8402 top one K
    ∷ row 8432 top one K
    ∷ row 8439 top one K ∷ []

-- ---- the lines of a set

-- contents that fit; the other labels take their own four digits as content
contents : List Field
contents =
    field 3103 (text "12041946")
    ∷ field 3108 (text "3")
    ∷ field 3110 (text "1")
    ∷ field 6200 (text "12031993")
    ∷ field 6201 (text "132201")
    ∷ field 8100 (text "00747")
    ∷ field 8315 (text "ROP200U1")
    ∷ field 8316 (text "PRAX_EDV")
    ∷ field 8418 (text "B")
    ∷ field 8429 (text "01")
    ∷ field 8432 (text "31011994")
    ∷ field 8439 (text "125600")
    ∷ field 9206 (text "2")
    ∷ field 9218 (text "02.10") ∷ []

abbrev content_in : List Field → ℕ → List ℕ
content_in [] l = digits 4 l
content_in (f ∷ fs) l = let rest = content_in fs l in cond (eqb f.label l) f.content rest

-- the line with label l in a set of type t
line : ℕ → ℕ → Field
unfolding contents
line t l = field l (cond (eqb l 8000) (digits 4 t) (content_in contents l))

-- ---- what is given, and what must be answered

-- lines by their labels: with the sum put in as line 2 and further lines after the set, or as they stand
data Given : Type 0 where
  summed : List ℕ → List ℕ → Given
  bare : List ℕ → Given

-- a refusal by its number, how many lines stand before the line concerned, and its label
data Demand : Type 0 where
  accepted : Demand
  refused : ℕ → ℕ → ℕ → Demand

record Case : Type 0 where
  given : Given
  demand : Demand

abbrev case : Given → Demand → Case
case g d = record { given = g; demand = d }

-- the lines of the set
lines : ℕ → Given → List Field
unfolding line
lines t (summed ls behind) = with_sum (map (line t) ls)
lines t (bare ls) = map (line t) ls

-- all bytes
bytes : ℕ → Given → List ℕ
unfolding lines
bytes t (summed ls behind) = render (lines t (summed ls behind)) (render (map (line t) behind) [])
bytes t (bare ls) = render (lines t (bare ls)) []

-- "The place is the offset of the line's first byte"
abbrev answer : ℕ → List Field → Demand → Judged
answer t fs accepted = Ok (record { length = length (render fs []); lines = length fs; settype = t })
answer t fs (refused n k l) = Err (refusal n (length (render (take k fs) [])) l)

-- a set that is accepted
abbrev accept : List ℕ → Case
accept ls = case (summed ls []) accepted

-- a set that is refused with this number and label for the first line of `rest`
abbrev refuse : ℕ → List ℕ → List ℕ → ℕ → Case
refuse n before rest l = case (summed (before ++ rest) []) (refused n (suc (length before)) l)

-- ---- the labels of rows

abbrev keep : {A : Type 0} → (A → Bool) → List A → List A
keep p [] = []
keep p (x ∷ xs) = let rest = keep p xs in cond (p x) (x ∷ rest) rest

abbrev is_in : ℕ → List ℕ → Bool
is_in l [] = false
is_in l (x ∷ xs) = eqb l x || is_in l xs

abbrev without : ℕ → List ℕ → List ℕ
without l ls = keep (λ (x : ℕ). not (eqb x l)) ls

labels_of : List Printed → List ℕ
unfolding flat_map
labels_of rs = flat_map (λ (r : Printed). r.labels) rs

abbrev at_set_level : Level → Bool
at_set_level top = true
at_set_level name = false
at_set_level odd = false
at_set_level (under h) = false

abbrev is_under : ℕ → Level → Bool
is_under h top = false
is_under h name = false
is_under h odd = false
is_under h (under g) = eqb h g

abbrev is_m : Need → Bool
is_m M = true
is_m K = false
is_m (m ls) = false

abbrev conditions : Need → List ℕ
conditions M = []
conditions K = []
conditions (m ls) = ls

-- "Required at set level", but 8100, which is put in as the sum
needed : List Printed → List ℕ
unfolding labels_of
needed rs = without 8100 (labels_of (keep (λ (r : Printed). at_set_level r.level && is_m r.need) rs))

-- the members of h that are required if h and l stand. For 8410 and 8420: 8421
called : List Printed → ℕ → ℕ → List ℕ
unfolding labels_of
called rs h l =
    labels_of (keep (λ (r : Printed). is_under h r.level && (is_in h (conditions r.need) || is_in l (conditions r.need))) rs)

-- a line at set level with the members that it requires: 6302, 6303, 6304, 6305; any other by itself
block : List Printed → ℕ → List ℕ
unfolding called
block rs h = h ∷ called rs h h

-- a group of h with its member l and the members that are then required: 8410, 8420, 8421; 8410, 8411; 6302, 6304, 6303, 6305
group : List Printed → ℕ → ℕ → List ℕ
unfolding called
group rs h l = h ∷ l ∷ without l (called rs h l)

-- ---- the cases of a line at set level

-- 13, "single label again in the set or its group": the first line of `rest` is there again
abbrev again : Occurs → List ℕ → List ℕ → ℕ → Case
again one before rest l = refuse 13 before rest l
again many before rest l = accept (before ++ rest)

-- absent, which is 16 for M, at place 0; at the end; in line 3 and again at the end. If it is K, it is absent in the set of what is needed (`of_table`).
set_line : List Printed → Printed → ℕ → List Case
unfolding needed block
set_line rs r l =
    let rest = without 8000 (without l (needed rs)) in
    let own = block rs l in
    cond (is_m r.need) (case (summed (8000 ∷ rest) []) (refused 16 0 l) ∷ []) []
    ++ (accept (8000 ∷ rest ++ own) ∷ again r.occurs (8000 ∷ own ++ rest) own l ∷ [])

-- 8000 absent, and again: "line 1 is not 8000" is 8, and a later one ends the set, whatever stands after it
start_line : List ℕ → List Case
start_line ls =
    case (summed (without 8000 ls) []) (refused 8 0 0)
    ∷ case (summed ls (8000 ∷ [])) accepted
    ∷ case (summed ls (8000 ∷ 9999 ∷ [])) accepted ∷ []

-- 8100 absent, late, and again: "line 2 is absent (place: set length) or not 8100" is 10
sum_line : List ℕ → List Case
sum_line ls =
    case (bare (8000 ∷ [])) (refused 10 1 0)
    ∷ case (bare ls) (refused 10 1 0)
    ∷ case (bare (ls ++ 8100 ∷ [])) (refused 10 1 0)
    ∷ refuse 13 (8000 ∷ []) (8100 ∷ without 8000 ls) 8100
    ∷ refuse 13 ls (8100 ∷ []) 8100 ∷ []

-- ---- the cases of a member of a group

-- absent in a group that has c (a member, or h itself), which requires it: the group by itself, and after a right one.
-- For 8421 and c = 8420, after the needed lines: 8410, 8420, which is 16 for 8421 at the 8410; and 8410, 8421, 8410, 8420, where it is the second 8410.
lacking : List Printed → ℕ → ℕ → ℕ → List Case
unfolding needed called group
lacking rs h l c =
    let g = h ∷ without h (c ∷ without l (called rs h c)) in
    refuse 16 (needed rs) g l ∷ refuse 16 (needed rs ++ group rs h l) g l ∷ []

abbrev other_header : ℕ → ℕ
other_header h = cond (eqb h 8410) 6302 8410

-- in its group, and so in two; twice in one; in none; after a line that closed it; in the other header's group; absent.
-- If it is K, it is absent in the groups of the other members.
-- For 8411, after the needed lines: 8410, 8411, 8410, 8411; 8410, 8411, 8411; 8411; 8410, 8411, 8990, 8411; 6302, 6303, 6304, 6305, 8411.
member : List Printed → Printed → ℕ → ℕ → List Case
unfolding needed group block lacking flat_map
member rs r h l =
    let b = needed rs in
    let g = group rs h l in
    (accept (b ++ g ++ g)
    ∷ again r.occurs (b ++ g) (l ∷ []) l
    ∷ refuse 12 b (l ∷ []) l
    ∷ refuse 12 (b ++ g ++ 8990 ∷ []) (l ∷ []) l
    ∷ refuse 12 (b ++ block rs (other_header h)) (l ∷ []) l ∷ [])
    ++ flat_map (lacking rs h l) (conditions r.need)

-- ---- the cases of a pair

-- a name with its odd label; twice so; it closes a group; without its odd label at the end, before another line, before itself
name_line : List ℕ → Occurs → ℕ → List Case
name_line b o l =
    accept (b ++ l ∷ suc l ∷ [])
    ∷ again o (b ++ l ∷ suc l ∷ []) (l ∷ suc l ∷ []) l
    ∷ refuse 12 (b ++ 8410 ∷ l ∷ suc l ∷ []) (8411 ∷ []) 8411
    ∷ refuse 16 b (l ∷ []) (suc l)
    ∷ refuse 16 b (l ∷ 8990 ∷ []) (suc l)
    ∷ refuse 16 b (l ∷ l ∷ suc l ∷ []) (suc l) ∷ []

-- "An odd label 6331 to 6399 stands nowhere else": alone, again, in a group, one line too late, after another pair, after another name.
-- A name that is left alone by that would be 16, but 12 comes first.
odd_line : List ℕ → List ℕ → ℕ → List Case
unfolding flat_map
odd_line b names l =
    (refuse 12 b (l ∷ []) l
    ∷ refuse 12 (b ++ pred l ∷ l ∷ []) (l ∷ []) l
    ∷ refuse 12 (b ++ 8410 ∷ []) (l ∷ []) l
    ∷ refuse 12 (b ++ pred l ∷ 8990 ∷ []) (l ∷ []) l ∷ [])
    ++ flat_map (λ (a : ℕ). refuse 12 (b ++ a ∷ suc a ∷ []) (l ∷ []) l ∷ refuse 12 (b ++ a ∷ []) (l ∷ []) l ∷ []) (without (pred l) names)

-- ---- all cases of a table

of_label : List Printed → Printed → Level → ℕ → List Case
unfolding needed set_line start_line sum_line member name_line odd_line
of_label rs r top l = cond (eqb l 8000) (start_line (needed rs)) (cond (eqb l 8100) (sum_line (needed rs)) (set_line rs r l))
of_label rs r name l = name_line (needed rs) r.occurs l
of_label rs r odd l = odd_line (needed rs) (conditions r.need) l
of_label rs r (under h) l = member rs r h l

-- the cases of some rows of the table rs
of_rows : List Printed → List Printed → List Case
unfolding of_label flat_map
of_rows rs some = flat_map (λ (r : Printed). flat_map (λ (l : ℕ). of_label rs r r.level l) r.labels) some

-- only what is needed, so that every row that is K is absent; every row once, in printed order;
-- and 11, "label not in the set's table": each label of 6310 that this table lacks, and some that no table has
of_table : List Printed → List Case
unfolding needed labels_of printed6310 flat_map
of_table rs =
    accept (needed rs)
    ∷ accept (without 8100 (flat_map (λ (r : Printed). take 1 r.labels) rs))
    ∷ map (λ (l : ℕ). refuse 11 (needed rs) (l ∷ []) l)
    (keep (λ (l : ℕ). not (is_in l (labels_of rs))) (labels_of printed6310 ++ 0 ∷ 6329 ∷ 6400 ∷ 8412 ∷ 9999 ∷ []))

-- ---- the answers

-- an answer in numbers: 0, length, lines and type, or number, place and label
abbrev numbers : Judged → List ℕ
numbers (Ok x) = 0 ∷ x.length ∷ x.lines ∷ x.settype ∷ []
numbers (Err r) = r.no ∷ r.place ∷ r.label ∷ []

abbrev same : List ℕ → List ℕ → Bool
same [] [] = true
same [] (y ∷ ys) = false
same (x ∷ xs) [] = false
same (x ∷ xs) (y ∷ ys) = eqb x y && same xs ys

-- the cases that `judge` answers differently in sets of type t
wrong : ℕ → List Case → List Case
unfolding computes lines bytes
wrong t [] = []
wrong t (c ∷ cs) =
    let rest = wrong t cs in
    cond (same (numbers (judge (bytes t c.given))) (numbers (answer t (lines t c.given) c.demand))) rest (c ∷ rest)

-- ---- the examples, table by table, and page by page in 6310
-- To find a case that differs, state it of fewer cases, as `wrong 6310 (take 9 second_cases6310) ≡ []`. With one case the checker's message shows it.

cases6300 : List Case
unfolding printed6300 of_table of_rows
cases6300 = of_table printed6300 ++ of_rows printed6300 printed6300

right6300 : wrong 6300 cases6300 ≡ []
unfolding computes cases6300 wrong
right6300 = refl

cases6301 : List Case
unfolding printed6301 of_table of_rows
cases6301 = of_table printed6301 ++ of_rows printed6301 printed6301

right6301 : wrong 6301 cases6301 ≡ []
unfolding computes cases6301 wrong
right6301 = refl

cases6302 : List Case
unfolding printed6302 of_table of_rows
cases6302 = of_table printed6302 ++ of_rows printed6302 printed6302

right6302 : wrong 6302 cases6302 ≡ []
unfolding computes cases6302 wrong
right6302 = refl

table_cases6310 : List Case
unfolding printed6310 of_table
table_cases6310 = of_table printed6310

right_table6310 : wrong 6310 table_cases6310 ≡ []
unfolding computes table_cases6310 wrong
right_table6310 = refl

first_cases6310 : List Case
unfolding printed6310 first6310 of_rows
first_cases6310 = of_rows printed6310 first6310

right_first6310 : wrong 6310 first_cases6310 ≡ []
unfolding computes first_cases6310 wrong
right_first6310 = refl

second_cases6310 : List Case
unfolding printed6310 second6310 of_rows
second_cases6310 = of_rows printed6310 second6310

right_second6310 : wrong 6310 second_cases6310 ≡ []
unfolding computes second_cases6310 wrong
right_second6310 = refl

third_cases6310 : List Case
unfolding printed6310 third6310 of_rows
third_cases6310 = of_rows printed6310 third6310

right_third6310 : wrong 6310 third_cases6310 ≡ []
unfolding computes third_cases6310 wrong
right_third6310 = refl

cases6311 : List Case
unfolding printed6311 of_table of_rows
cases6311 = of_table printed6311 ++ of_rows printed6311 printed6311

right6311 : wrong 6311 cases6311 ≡ []
unfolding computes cases6311 wrong
right6311 = refl

-- Each printed row is there, this many cases are tried, and none is answered differently.
all-rows :
    (map (λ (rs : List Printed). length rs) (printed6300 ∷ printed6301 ∷ printed6302 ∷ printed6310 ∷ printed6311 ∷ [])
    ≡ 7 ∷ 20 ∷ 25 ∷ 57 ∷ 17 ∷ [])
    × (map (λ (cs : List Case). length cs)
    (cases6300 ∷ cases6301 ∷ cases6302 ∷ table_cases6310 ∷ first_cases6310 ∷ second_cases6310 ∷ third_cases6310 ∷ cases6311 ∷ [])
    ≡ 81 ∷ 97 ∷ 102 ∷ 7 ∷ 55 ∷ 141 ∷ 37 ∷ 91 ∷ [])
    × (wrong 6300 cases6300 ≡ [])
    × (wrong 6301 cases6301 ≡ [])
    × (wrong 6302 cases6302 ≡ [])
    × (wrong 6310 table_cases6310 ≡ [])
    × (wrong 6310 first_cases6310 ≡ [])
    × (wrong 6310 second_cases6310 ≡ [])
    × (wrong 6310 third_cases6310 ≡ [])
    × (wrong 6311 cases6311 ≡ [])
unfolding printed6300 printed6301 printed6302 printed6310 printed6311 cases6300 cases6301 cases6302 table_cases6310 first_cases6310 second_cases6310 third_cases6310 cases6311
all-rows = (refl, refl, right6300, right6301, right6302, right_table6310, right_first6310, right_second6310, right_third6310, right6311)
