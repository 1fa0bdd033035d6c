-- The open points of recoding that docs/DECISIONS.md decides, E5a to E5g, each with inputs that show the decision, and the order of the refusals if two apply.
use mathlib.Core.Path.{◌≡◌, refl}
use mathlib.Core.List.{List, [], ◌∷◌, ◌++◌, map}
use Prim.Native.Nat.{ℕ}
use Prim.Native.String.{String}
use lib.ListN.{length, replicate, take}
use Rattle.meaning.specs.Field.{Field, field}
use Rattle.meaning.specs.Refusals.{Fault, at_line, at_byte, too_many_lines, no_such_character}
use Rattle.meaning.specs.Computes.{computes}
use Rattle.meaning.proofs.Asking.{text, line, set_of, before, Answer, refused_by, holds, on_buffer, answer}
use Rattle.meaning_recode.specs.declared.Code.{Code}
use Rattle.meaning_recode.specs.declared.Code.TheVariants.{Page437, Page1252}
use Rattle.meaning_recode.specs.Codes.{no_byte, recoded}
use Rattle.meaning_recode.specs.Recoding.{recode_faults}
use Rattle.meaning_recode.specs.RecodeCalls.{recode_call}
use Rattle.meaning_recode.specs.RecodeComputes.{recode_computes}

-- ---- how a table is written

-- a set at the front of a buffer with this many bytes more, wanted in a code page, and what is answered
pub record RecodeExample : Type 0 where
  pub set : List ℕ
  pub more : ℕ
  pub wanted : Code
  pub expected : Answer

abbrev into : Code → List ℕ → ℕ → Answer → RecodeExample
into w s n a = record { set = s; more = n; wanted = w; expected = a }

-- all bytes of the set are used
recode_answer : RecodeExample → Answer
recode_answer e = let b : List ℕ = e.set ++ replicate e.more before in on_buffer b (recode_call b (length e.set) e.wanted)

abbrev answers : List RecodeExample → List Answer
answers es = map recode_answer es

abbrev expected : List RecodeExample → List Answer
expected es = map (λ (e : RecodeExample). e.expected) es

-- ---- the sets that the points are shown on

-- a set of type 6300 whose patient's number is these bytes, without 9206; its content stands at 48
plain : List ℕ → List ℕ
plain c = set_of (line 8000 "6300" ∷ line 9218 "02.10" ∷ field 3000 c ∷ [])

-- the same with 9206 as line 3, with this content; the patient's number stands at 58
marked : String → List ℕ → List ℕ
marked m c = set_of (line 8000 "6300" ∷ line 9206 m ∷ line 9218 "02.10" ∷ field 3000 c ∷ [])

-- the same with 9206 as the last line; the patient's number stands at 48
late : String → List ℕ → List ℕ
late m c = set_of (line 8000 "6300" ∷ line 9218 "02.10" ∷ field 3000 c ∷ line 9206 m ∷ [])

-- the character u with two dots, sharp s, micro, degree, f with a hook, and the space that does not break, in 437 and in 1252
signs437 : List ℕ
signs437 = 0x81 ∷ 0xE1 ∷ 0xE6 ∷ 0xF8 ∷ 0x9F ∷ 0xFF ∷ []

signs1252 : List ℕ
signs1252 = 0xFC ∷ 0xDF ∷ 0xB5 ∷ 0xB0 ∷ 0x83 ∷ 0xA0 ∷ []

-- the greek letter of 437 that 1252 has not, the euro of 1252 that 437 has not, and a byte of 1252 that is no character
theta : ℕ
theta = 0xE9

euro : ℕ
euro = 0x80

nothing : ℕ
nothing = 0x81

-- ---- what is made

made : List RecodeExample
unfolding plain marked late signs437 signs1252 theta euro nothing
made =
    -- E5e: line 3 is gained, with ten bytes; 8100 counts them
    into Page1252 (plain signs437) 10 (holds 66 (marked "3" signs1252))
    ∷ into Page1252 (plain signs437) 12 (holds 66 (marked "3" signs1252 ++ replicate 2 0))
    ∷ into Page1252 (plain (text "0")) 10 (holds 61 (text "01380006300\r\n014810000061\r\n01092063\r\n014921802.10\r\n01030000\r\n"))
    -- E5c: it is in 437 already; nothing is gained, and bytes that 1252 has not stay
    ∷ into Page437 (plain signs437) 0 (holds 56 (plain signs437))
    ∷ into Page437 (plain (theta ∷ [])) 3 (holds 51 (plain (theta ∷ []) ++ replicate 3 0))
    ∷ into Page437 (marked "2" (theta ∷ [])) 1 (holds 61 (marked "2" (theta ∷ []) ++ (0 ∷ [])))
    ∷ into Page1252 (marked "3" (euro ∷ nothing ∷ [])) 1 (holds 62 (marked "3" (euro ∷ nothing ∷ []) ++ (0 ∷ [])))
    -- E5d: only what 9206 holds changes
    ∷ into Page437 (marked "1" (text "\u{7f}")) 2 (holds 61 (marked "2" (text "\u{7f}") ++ replicate 2 0))
    ∷ into Page1252 (marked "1" (text "Mueller")) 0 (holds 67 (marked "3" (text "Mueller")))
    ∷ into Page1252 (late "1" (text "1")) 0 (holds 61 (late "3" (text "1")))
    -- every content changes, and what 9206 holds; there and back
    ∷ into Page1252 (marked "2" signs437) 4 (holds 66 (marked "3" signs1252 ++ replicate 4 0))
    ∷ into Page437 (marked "3" signs1252) 0 (holds 66 (marked "2" signs437))
    ∷ into Page1252 (late "2" signs437) 0 (holds 66 (late "3" signs1252))
    ∷ into Page437 (late "3" signs1252) 1 (holds 66 (late "2" signs437 ++ (0 ∷ []))) ∷ []

made-decided : answers made ≡ expected made
unfolding computes recode_computes answer recode_answer made plain marked late signs437 signs1252 theta euro nothing
made-decided = refl

-- ---- what is refused

refused_sets : List RecodeExample
unfolding plain marked late signs437 signs1252 theta euro nothing
refused_sets =
    -- E5f: the first such byte, by its place in the buffer as it was given
    into Page1252 (plain (77 ∷ theta ∷ theta ∷ [])) 20 (refused_by 27 49 0)
    ∷ into Page1252 (marked "2" (77 ∷ theta ∷ [])) 0 (refused_by 27 59 0)
    ∷ into Page437 (marked "3" (euro ∷ [])) 0 (refused_by 27 58 0)
    ∷ into Page437 (late "3" (77 ∷ 77 ∷ nothing ∷ [])) 0 (refused_by 27 50 0)
    -- E5b: 22 last, with the new length as the need
    ∷ into Page1252 (plain signs437) 9 (refused_by 22 66 0)
    ∷ into Page1252 (plain signs437) 0 (refused_by 22 66 0)
    ∷ into Page1252 (plain (theta ∷ [])) 0 (refused_by 27 48 0)
    -- 18: another set follows, after the set's own and before 27
    ∷ into Page1252 (plain (theta ∷ []) ++ plain (text "0")) 0 (refused_by 18 51 0)
    ∷ into Page437 (plain (text "0") ++ text "xyz8000") 0 (refused_by 18 51 0)
    ∷ into Page1252 (marked "1" (theta ∷ []) ++ plain (text "0")) 0 (refused_by 24 58 0)
    ∷ into Page1252 (take 50 (plain (theta ∷ []))) 0 (refused_by 3 41 0)
    ∷ into Page437 [] 5 (refused_by 1 0 0) ∷ []

refused-decided : answers refused_sets ≡ expected refused_sets
unfolding computes recode_computes answer recode_answer refused_sets plain marked late signs437 signs1252 theta euro nothing
refused-decided = refl

-- 18 before all: the used length is over the buffer
used-decided : on_buffer (plain (text "0")) (recode_call (plain (text "0")) 52 Page437) ≡ refused_by 18 51 0
unfolding computes recode_computes answer plain
used-decided = refl

-- E5b, E5e: 7 before 27, at the set's length; 512 lines with 9206 gain none, nor do they if 437 is wanted
many : List Field
unfolding theta
many = replicate 511 (field 3000 (theta ∷ []))

lines-decided : (take 1 (recode_faults Page1252 (line 8000 "6300" ∷ many)) ≡ at_line too_many_lines 512 0 ∷ [])
    × (take 1 (recode_faults Page1252 many) ≡ at_byte no_such_character 0 0 ∷ [])
    × (take 1 (recode_faults Page1252 (line 9206 "2" ∷ many)) ≡ at_byte no_such_character 1 0 ∷ [])
    × (recode_faults Page437 (line 8000 "6300" ∷ many) ≡ [])
unfolding computes recode_computes theta many
lines-decided = (refl, refl, refl, refl)

-- ---- E5a: the tables at their edges

into-1252 : map (recoded Page1252) (0x00 ∷ 0x7F ∷ 0x80 ∷ 0x9E ∷ 0x9F ∷ 0xB0 ∷ 0xE0 ∷ 0xE1 ∷ 0xFF ∷ 0x100 ∷ [])
    ≡ 0x00 ∷ 0x7F ∷ 0xC7 ∷ no_byte ∷ 0x83 ∷ no_byte ∷ no_byte ∷ 0xDF ∷ 0xA0 ∷ no_byte ∷ []
unfolding recode_computes
into-1252 = refl

into-437 : map (recoded Page437) (0x00 ∷ 0x7F ∷ 0x80 ∷ 0x81 ∷ 0x83 ∷ 0x8D ∷ 0x8F ∷ 0x90 ∷ 0x9D ∷ 0xA0 ∷ 0xDF ∷ 0xFF ∷ [])
    ≡ 0x00 ∷ 0x7F ∷ no_byte ∷ no_byte ∷ 0x9F ∷ no_byte ∷ no_byte ∷ no_byte ∷ no_byte ∷ 0xFF ∷ 0xE1 ∷ 0x98 ∷ []
unfolding recode_computes
into-437 = refl
