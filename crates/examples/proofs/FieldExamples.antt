-- The field table (chapter 4 of the QMS description) as printed there, and for each row contents that just fit and contents that just do not.
-- The rows are copied from the document; of specs/ only the definitions under test are used, and none of them to say what must be answered; `refusal` only puts the three
-- numbers of an answer together.
use mathlib.Core.Path.{◌≡◌, refl}
use mathlib.Core.Bool.{Bool, true, false, cond, ◌&&◌, ◌||◌, beq}
use mathlib.Core.List.{List, [], ◌∷◌, ◌++◌, map, flat_map, flatten}
use Prim.Native.Nat.{ℕ, zero, suc, pred, ◌+◌, ◌-◌, ◌*◌, ◌/◌}
use Prim.Native.String.{String}
use lib.ListN.{length, replicate, take, set}
use lib.Dec.{leb, eqb}
use Rattle.meaning.specs.Refusals.{refusal}
use Rattle.meaning.specs.Kinds.{is_alnum, is_num, is_float, is_rule020, is_rule008, is_rule090, is_rule112, is_rule116, is_charset, is_version, is0210}
use Rattle.meaning.specs.FieldTable.{fits_label}
use Rattle.meaning.specs.Reading.{judge}
use Rattle.meaning.specs.Computes.{computes}
use Rattle.meaning.proofs.Asking.{text}
use Rattle.meaning.specs.Results.{Judged}
use Rattle.std.specs.Prelude.{Err, Ok}

-- n numbers from a on
abbrev from : ℕ → ℕ → List ℕ
from a zero = []
from a (suc n) = a ∷ from (suc a) n

-- ---- how a row is printed

-- the column "Length": "8", "<=60", "var"
infix 80 <=◌
data Length : Type 0 where
  exactly : ℕ → Length
  <=◌ : ℕ → Length
  var : Length

-- the columns "Type" and "Rule". Rules 112 and 116 are a choice of one digit. The paper gives 9206 such a choice and 9218 the form of a version.
data Kind : Type 0 where
  alnum num float rule020 rule008 rule090 version : Kind
  one_of : String → Kind

-- a row has more than one label if a range is printed
record Printed : Type 0 where
  labels : List ℕ
  lengths : Length
  kind : Kind

abbrev row : ℕ → Length → Kind → Printed
row l n k = record { labels = l ∷ []; lengths = n; kind = k }

-- every other label from the first to the last: "6330-6398", "6331-6399"
abbrev range : ℕ → ℕ → Length → Kind → Printed
range l m n k = record { labels = map (λ (i : ℕ). l + 2 * i) (from 0 (suc ((m - l) / 2))); lengths = n; kind = k }

-- ---- the rows

-- label, length, type and rule of each row, in the printed order
printed : List Printed
printed =
    row 0102 (<= 60) alnum
    ∷ row 0103 (<= 60) alnum
    ∷ row 0132 (<= 60) alnum
    ∷ row 3000 (<= 10) alnum
    ∷ row 3100 (<= 15) alnum
    ∷ row 3101 (<= 28) alnum
    ∷ row 3102 (<= 28) alnum
    ∷ row 3103 (exactly 8) rule020
    ∷ row 3104 (<= 15) alnum
    ∷ row 3105 (<= 12) alnum
    ∷ row 3106 (<= 30) alnum
    ∷ row 3107 (<= 28) alnum
    ∷ row 3108 (exactly 1) (one_of "135")
    ∷ row 3110 (exactly 1) (one_of "12")
    ∷ row 3622 var float
    ∷ row 3623 var float
    ∷ row 3628 (<= 60) alnum
    ∷ row 6200 (exactly 8) rule008
    ∷ row 6201 (exactly 6) rule090
    ∷ row 6205 (<= 60) alnum
    ∷ row 6220 (<= 60) alnum
    ∷ row 6221 (<= 60) alnum
    ∷ row 6226 (<= 4) num
    ∷ row 6227 (<= 60) alnum
    ∷ row 6228 (<= 60) alnum
    ∷ row 6302 (<= 60) alnum
    ∷ row 6303 (<= 60) alnum
    ∷ row 6304 (<= 60) alnum
    ∷ row 6305 (<= 60) alnum
    ∷ range 6330 6398 (<= 60) alnum
    ∷ range 6331 6399 (<= 60) alnum
    ∷ row 8000 (exactly 4) alnum
    ∷ row 8100 (exactly 5) num
    ∷ row 8315 (exactly 8) alnum
    ∷ row 8316 (exactly 8) alnum
    ∷ row 8402 (<= 6) alnum
    ∷ row 8410 (<= 20) alnum
    ∷ row 8411 (<= 60) alnum
    ∷ row 8418 (exactly 1) alnum
    ∷ row 8420 var float
    ∷ row 8421 (<= 60) alnum
    ∷ row 8428 (<= 8) alnum
    ∷ row 8429 (exactly 2) num
    ∷ row 8430 (<= 60) alnum
    ∷ row 8431 (<= 60) alnum
    ∷ row 8432 (exactly 8) rule008
    ∷ row 8437 (<= 60) alnum
    ∷ row 8438 (<= 60) alnum
    ∷ row 8439 (exactly 6) rule090
    ∷ row 8460 (<= 60) alnum
    ∷ row 8461 var float
    ∷ row 8462 var float
    ∷ row 8470 (<= 60) alnum
    ∷ row 8480 (<= 60) alnum
    ∷ row 8990 (<= 60) alnum
    ∷ row 9206 (exactly 1) (one_of "123")
    ∷ row 9218 (exactly 5) version ∷ []

-- ---- the contents tried

record Case : Type 0 where
  label : ℕ
  content : List ℕ
  fits : Bool

abbrev case : ℕ → Bool → List ℕ → Case
case l b c = record { label = l; content = c; fits = b }

-- "8" means exactly, "<=60" means 1 to 60, "var" is taken as 1 to 60
abbrev least : Length → ℕ
least (exactly k) = k
least (<= k) = 1
least var = 1

abbrev most : Length → ℕ
most (exactly k) = k
most (<= k) = k
most var = 60

abbrev within : Length → ℕ → Bool
within n k = leb (least n) k && leb k (most n)

-- nothing, one byte, and the lengths on both sides of each bound
abbrev lengths_tried : Length → List ℕ
lengths_tried (exactly k) = 0 ∷ 1 ∷ pred k ∷ k ∷ suc k ∷ []
lengths_tried (<= k) = 0 ∷ 1 ∷ k ∷ suc k ∷ []
lengths_tried var = 0 ∷ 1 ∷ 60 ∷ 61 ∷ []

-- the bytes that contents of a kind repeat: at the right length they fit
abbrev pattern : Kind → List ℕ
pattern alnum = 32 ∷ 127 ∷ 128 ∷ 255 ∷ []
pattern num = text "0123456789"
pattern float = text "0123456789"
pattern rule020 = text "01011999"
pattern rule008 = text "01011999"
pattern rule090 = text "010203"
pattern version = text "02.10"
pattern (one_of ds) = text ds

-- n bytes: these repeated
abbrev cycle : ℕ → List ℕ → List ℕ
cycle n bs = take n (flatten (replicate n bs))

-- a content of each length tried
abbrev by_length : ℕ → Length → Kind → List Case
by_length l n k = map (λ (i : ℕ). case l (within n i) (cycle i (pattern k))) (lengths_tried n)

-- a content that fits, but with each of these bytes in each of its places
abbrev spoilt : ℕ → String → List ℕ → List Case
spoilt l bs c = flat_map (λ (i : ℕ). map (λ (b : ℕ). case l false (set c i b)) (text bs)) (from 0 (length c))

-- bytes that are no digit, the two beside the digits first
abbrev no_digits : String
no_digits = "/:- a"

-- one byte repeated: the first and the last content byte, and those on both sides of 80h
abbrev filled : ℕ → ℕ → List Case
filled l n = map (λ (b : ℕ). case l true (replicate n b)) (32 ∷ 127 ∷ 128 ∷ 255 ∷ [])

-- alnum takes any byte in any place; no other kind takes a byte that is no digit, but float its sign and point, and version its point
abbrev by_byte : ℕ → Length → Kind → List Case
by_byte l n alnum = filled l (most n)
by_byte l n num = spoilt l no_digits (cycle (most n) (pattern num))
by_byte l n float = spoilt l "/: a+" (text "-15.3")
by_byte l n rule020 = spoilt l no_digits (pattern rule020)
by_byte l n rule008 = spoilt l no_digits (pattern rule008)
by_byte l n rule090 = spoilt l no_digits (pattern rule090)
by_byte l n version = spoilt l no_digits (pattern version)
by_byte l n (one_of ds) = spoilt l no_digits (take 1 (text ds))

-- contents as texts, all of which fit or all of which do not
abbrev texts : ℕ → Bool → List String → List Case
texts l b ts = map (λ (t : String). case l b (text t)) ts

-- the byte is one of these
abbrev is_one_of : ℕ → List ℕ → Bool
is_one_of b [] = false
is_one_of b (d ∷ ds) = eqb b d || is_one_of b ds

-- each digit and a letter by itself
abbrev digits_tried : ℕ → String → List Case
digits_tried l ds = map (λ (d : ℕ). case l (is_one_of d (text ds)) (d ∷ [])) (text "0123456789a")

-- what fits of each kind and what does not, at its corners
abbrev by_kind : ℕ → Kind → List Case
by_kind l alnum = []
by_kind l num = []
by_kind l float =
    texts l true ("0" ∷ "-0" ∷ "007" ∷ "-3.7" ∷ "1.5" ∷ "-00.0" ∷ [])
    ++ texts l false ("-" ∷ "." ∷ ".5" ∷ "5." ∷ "-.5" ∷ "-5." ∷ "1e3" ∷ "+1" ∷ " 1" ∷ "1 " ∷ "1,5" ∷ "1.2.3" ∷ "1..2" ∷ "--1" ∷ "1-" ∷ "1.-2" ∷ [])
    ++ (case l true (text "-" ++ cycle 59 (pattern num)) ∷ case l false (text "-" ++ cycle 60 (pattern num)) ∷ [])
by_kind l rule020 =
    texts l true ("00000000" ∷ "31121999" ∷ "31129999" ∷ "31020000" ∷ [])
    ++ texts l false ("32011999" ∷ "31131999" ∷ "99121999" ∷ "31991999" ∷ [])
by_kind l rule008 =
    texts l true ("01011999" ∷ "31121999" ∷ "31129999" ∷ "31020000" ∷ "10011999" ∷ [])
    ++ texts l false ("00011999" ∷ "01001999" ∷ "32011999" ∷ "01131999" ∷ "00000000" ∷ "00101999" ∷ [])
by_kind l rule090 =
    texts l true ("000000" ∷ "235959" ∷ "240000" ∷ "245959" ∷ [])
    ++ texts l false ("250000" ∷ "006000" ∷ "000060" ∷ "990000" ∷ [])
by_kind l version =
    texts l true ("02.10" ∷ "02.00" ∷ "99.99" ∷ "00.00" ∷ [])
    ++ texts l false ("2.10" ∷ "02,10" ∷ "0210." ∷ ".0210" ∷ "02.1" ∷ "002.10" ∷ "a2.10" ∷ "02310" ∷ [])
by_kind l (one_of ds) = digits_tried l ds

-- all cases of a row
abbrev of_row : Printed → List Case
of_row r = flat_map (λ (l : ℕ). by_length l r.lengths r.kind ++ by_byte l r.lengths r.kind ++ by_kind l r.kind) r.labels

-- 8418: any one byte
one_byte : List Case
one_byte = map (λ (b : ℕ). case 8418 true (b ∷ [])) (from 32 224)

-- ---- labels without a row: 0, those beside the rows, 9999

rowless : List ℕ
rowless =
    0 ∷ 0101 ∷ 0104 ∷ 0131 ∷ 0133 ∷ 2999 ∷ 3001 ∷ 3099 ∷ 3109 ∷ 3111 ∷ 3621 ∷ 3624 ∷ 3627 ∷ 3629 ∷ 6199 ∷ 6202 ∷ 6204 ∷ 6206 ∷ 6219
    ∷ 6222 ∷ 6225 ∷ 6229 ∷ 6301 ∷ 6306 ∷ 6329 ∷ 6400 ∷ 7999 ∷ 8001 ∷ 8099 ∷ 8101 ∷ 8314 ∷ 8317 ∷ 8401 ∷ 8403 ∷ 8409 ∷ 8412 ∷ 8417
    ∷ 8419 ∷ 8422 ∷ 8427 ∷ 8433 ∷ 8436 ∷ 8440 ∷ 8459 ∷ 8463 ∷ 8469 ∷ 8471 ∷ 8479 ∷ 8481 ∷ 8989 ∷ 8991 ∷ 9205 ∷ 9207 ∷ 9217 ∷ 9219
    ∷ 9999 ∷ []

-- they fit nothing: 10101010 and what it starts with are a date, a time, a choice, a number and a float
abbrev of_no_row : ℕ → List Case
of_no_row l = map (λ (n : ℕ). case l false (cycle n (text "10"))) (0 ∷ 1 ∷ 2 ∷ 4 ∷ 5 ∷ 6 ∷ 8 ∷ 60 ∷ [])

cases : List Case
unfolding printed one_byte rowless flat_map flatten
cases = flat_map of_row printed ++ one_byte ++ flat_map of_no_row rowless

-- ---- the version: "only `02.10` is read"

versions : List Case
versions =
    texts 9218 true ("02.10" ∷ [])
    ++ texts 9218 false ("02.00" ∷ "01.00" ∷ "99.99" ∷ "02.11" ∷ "02.01" ∷ "12.10" ∷ "00.10" ∷ "10.02" ∷ [])

-- what is answered to the paper's set P if 9218 has this content
version_reply : String → Judged
unfolding computes
version_reply v = judge (text "01380006300\r\n014810000051\r\n0149218" ++ text v ++ text "\r\n01030000\r\n")

-- ---- the answers

-- the cases that a test answers differently
abbrev wrong : (ℕ → List ℕ → Bool) → List Case → List Case
wrong test [] = []
wrong test (c ∷ cs) = let rest = wrong test cs in cond (beq (test c.label c.content) c.fits) rest (c ∷ rest)

-- Each printed row is there, this many contents are tried, and none is answered differently. To see which one differs, state the third of one row:
-- `wrong fits_label (of_row r) ≡ []`.
all-fields :
    (length printed ≡ 57)
    × (length cases ≡ 2230)
    × (wrong fits_label cases ≡ [])
    × (wrong (λ l c. is0210 c) versions ≡ [])
    × (map version_reply ("02.10" ∷ "02.00" ∷ "01.00" ∷ "99.99" ∷ "02,10" ∷ [])
    ≡ Ok (record { length = 51; lines = 4; settype = 6300 })
    ∷ Err (refusal 15 27 9218)
    ∷ Err (refusal 15 27 9218)
    ∷ Err (refusal 15 27 9218)
    ∷ Err (refusal 14 27 9218) ∷ [])
unfolding computes printed cases versions version_reply
all-fields = (refl, refl, refl, refl, refl)

-- Each test by itself, of a content of no bytes, which every length of the table shuts out: only alnum and num ask for no byte.
abbrev tests : List (List ℕ → Bool)
tests = is_alnum ∷ is_num ∷ is_float ∷ is_rule020 ∷ is_rule008 ∷ is_rule090 ∷ is_rule112 ∷ is_rule116 ∷ is_charset ∷ is_version ∷ is0210 ∷ []

nothing-tested : map (λ (test : List ℕ → Bool). test []) tests ≡ true ∷ true ∷ replicate 9 false
unfolding computes
nothing-tested = refl
