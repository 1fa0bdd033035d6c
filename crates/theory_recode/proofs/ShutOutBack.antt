-- What the other theorems of recoding shut out, tried, as in ShutOutRecode: `SaysX` is the statement of theorem x with any function in the place of the definition, `x-says` the theorem
-- itself; then trivial functions are put in. docs/PROMISES.md has the table of it: "What each theorem asks, and what it shuts out".
use mathlib.Core.Path.{◌≡◌, refl, sym, ap, ap₂, ◌∙◌, subst}
use mathlib.Core.Bool.{Bool, true, false, cond, true≢false}
use mathlib.Core.List.{List, [], ◌∷◌, ◌++◌, map, append-nil}
use mathlib.Core.Logic.{◌↔◌}
use Prim.Native.Nat.{ℕ, suc, ◌+◌, ◌-◌, ◌≤◌, ◌<◌}
use native.Mathlib.Omega.{arith}
use lib.Dec.{leb, eqb}
use lib.ListN.{length, take, get_or, replicate, length-append, length-replicate}
use lib.Seq.{take_at, take_all, length-take-le}
use borrow.Author.Tests.{leb-true, leb-false}
use Rattle.meaning.specs.declared.Refusal.{Refusal}
use Rattle.meaning.specs.declared.Shape.{Shape}
use Rattle.meaning.specs.Field.{Field, field}
use Rattle.meaning.specs.Refusals.{Reply, refused, done, refusal, then_to}
use Rattle.meaning.specs.Pieces.{Parsed, parsed}
use Rattle.meaning.specs.Lines.{size, render}
use Rattle.meaning.specs.Groups.{first}
use Rattle.meaning.specs.Rules.{profile, seven_bit}
use Rattle.meaning.specs.Reading.{shape, read, judge}
use Rattle.meaning.specs.Lists.{list, write}
use Rattle.meaning.specs.Corrections.{resum}
use Rattle.meaning.specs.Answers.{Call, made, bytes_left, made_count}
use Rattle.meaning.specs.Computes.{computes}
use Rattle.meaning.proofs.AnswerLaws.{refused-accepted, refused-made, made-same}
use Rattle.meaning.proofs.Asking.{line, set_of}
use Rattle.meaning.proofs.FaultLaws.{refused-done, done-same}
use Rattle.meaning.proofs.LineLaws.{length-render}
use Rattle.meaning.proofs.NumberLaws.{Numbered, OneOf}
use Rattle.meaning.proofs.RuleLaws.{ruled}
use Rattle.meaning.proofs.SetLaws.{Standing, read-render, accepted}
use Rattle.meaning.proofs.CorrectionLaws.{Holds, leaves, length-leaves, holds-leaves}
use Rattle.meaning.proofs.Demands.{read-judge, list-there, list-write, left-by-length}
use Rattle.meaning_recode.specs.declared.Code.{Code}
use Rattle.meaning_recode.specs.declared.Code.TheVariants.{Page437, Page1252}
use Rattle.meaning_recode.specs.Codes.{no_byte, to1252, to437, table_into, recoded}
use Rattle.meaning_recode.specs.Recoding.{charset_of, names_code, has_charset, in_code, recode_faults, charset_field, with_charset, recode_lines, recode}
use Rattle.meaning_recode.specs.RecodeCalls.{recode_call}
use Rattle.meaning_recode.specs.RecodeComputes.{recode_computes}
use Rattle.meaning_recode.proofs.CodeLaws.{other, undone-by, low-stays, high-stays}
use Rattle.meaning_recode.proofs.CharsetLaws.{one-charset, says-hold, not-in-code, marks-differ}
use Rattle.meaning_recode.proofs.MapLaws.{size-map, alters-mark, marked-standing}
use Rattle.meaning_recode.proofs.StandLaws.{recoded-stands}
use Rattle.meaning_recode.proofs.RecodeLaws.{recode-only, recode-judged, judged-call, recode-wanted, recode-list-write, refused-recode}
use Rattle.meaning_recode.proofs.RecodeNumbers.{recode_numbers, recode-numbers}
use Rattle.meaning_recode.proofs.BackLaws.{gained_bytes}
use Rattle.meaning_recode.proofs.BackCalls.{stays-call, twice-call, back-call, line-call, seven-call}
use Rattle.theory_recode.specs.Pages.{column437, column1252}
use Rattle.theory_recode.specs.RecodeRules.{SameCharacter}
use Rattle.theory_recode.proofs.PageExamples.{byte_of, tables-follow, same-exactly}
use Rattle.theory_recode.proofs.ShutOutRecode.{p, named, in437, in1252, recode-p, recode-letter, Recoder, leaving, each_line, idle}
use Rattle.theory_recode.proofs.ShutOutRecode.{SaysRecodedExactly, recoded-exactly-at}
use Rattle.meaning.specs.Results.{Made}
use Rattle.std.specs.Prelude.{Err, Ok}

-- ---- the inputs

-- the lines of P, which is in code page 437 since it has no 9206
unfoldable pub p_lines : List Field
p_lines = line 8000 "6300" ∷ line 8100 "00051" ∷ line 9218 "02.10" ∷ line 3000 "0" ∷ []

-- another such set, of 55 bytes
q : List ℕ
q = set_of (line 8000 "6300" ∷ line 9218 "02.10" ∷ line 3000 "10027" ∷ [])

q_lines : List Field
q_lines = line 8000 "6300" ∷ line 8100 "00055" ∷ line 9218 "02.10" ∷ line 3000 "10027" ∷ []

-- the lines of a set of 61 bytes that has 9206
unfoldable pub named_lines : Field → ℕ → List Field
named_lines f b = line 8000 "6300" ∷ line 8100 "00061" ∷ f ∷ line 9218 "02.10" ∷ field 3000 (b ∷ []) ∷ []

-- one that says seven bits
seven : List ℕ
seven = named (line 9206 "1") 0x41

front-p : read (take 51 p) ≡ done (parsed p_lines [])
unfolding computes p p_lines
front-p = refl

-- P with a byte behind it, and with room for the line that it gains
front-p-more : read (take 51 (p ++ (7 ∷ []))) ≡ done (parsed p_lines [])
unfolding computes p p_lines
front-p-more = refl

front-p-room : read (take 51 (p ++ replicate gained_bytes 0)) ≡ done (parsed p_lines [])
unfolding computes p p_lines
front-p-room = refl

front-q : read (take 55 q) ≡ done (parsed q_lines [])
unfolding computes q q_lines
front-q = refl

pub front-437 : read (take 61 in437) ≡ done (parsed (named_lines (line 9206 "2") 0x81) [])
unfolding computes named in437 named_lines
front-437 = refl

front-437-more : read (take 61 (in437 ++ (7 ∷ []))) ≡ done (parsed (named_lines (line 9206 "2") 0x81) [])
unfolding computes named in437 named_lines
front-437-more = refl

front-1252 : read (take 61 in1252) ≡ done (parsed (named_lines (line 9206 "3") 0xFC) [])
unfolding computes named in1252 named_lines
front-1252 = refl

front-seven : read (take 61 seven) ≡ done (parsed (named_lines (line 9206 "1") 0x41) [])
unfolding computes named seven named_lines
front-seven = refl

p-437 : in_code Page437 p_lines ≡ true
unfolding computes recode_computes p_lines
p-437 = refl

p-no-charset : has_charset p_lines ≡ false
unfolding computes p_lines
p-no-charset = refl

q-no-charset : has_charset q_lines ≡ false
unfolding computes q_lines
q-no-charset = refl

says-437 : names_code Page437 (named_lines (line 9206 "2") 0x81) ≡ true
unfolding computes recode_computes named_lines
says-437 = refl

says-1252 : names_code Page1252 (named_lines (line 9206 "3") 0xFC) ≡ true
unfolding computes recode_computes named_lines
says-1252 = refl

in-1252-so : in_code Page1252 (named_lines (line 9206 "3") 0xFC) ≡ true
unfolding computes recode_computes named_lines
in-1252-so = refl

not-1252 : in_code Page1252 (named_lines (line 9206 "2") 0x81) ≡ false
unfolding computes recode_computes named_lines
not-1252 = refl

seven-bits : seven_bit (named_lines (line 9206 "1") 0x41) ≡ true
unfolding computes named_lines
seven-bits = refl

no-set : {y : Shape} → judge [] ≡ Ok y → ⊥
unfolding computes
no-set e = refused-accepted e

-- ---- what is put in

abbrev Table : Type 0
Table = Code → ℕ → ℕ

-- every byte stays as it is
abbrev itself : Table
itself w b = cond (leb b 255) b no_byte

abbrev pub Caller : Type 0
Caller = List ℕ → ℕ → Code → Call ℕ

abbrev pub call : Made → List ℕ → Call ℕ
call a b = record { answer = a; buffer = b }

-- refuses all, and leaves the buffer as it was
abbrev refusing : (List ℕ → ℕ → Code → Refusal) → Caller
refusing r b used w = call (Err (r b used w)) b

-- leaves the buffer as it was, and answers the used length
abbrev pub still : Caller
still b used w = call (Ok used) b

-- the same, but the bytes behind the used length become zero
abbrev kept : List ℕ → ℕ → List ℕ
kept b used = take used b ++ replicate (length b - used) 0

abbrev clearing : Caller
clearing b used w = call (Ok used) (kept b used)

kept_again : (b : List ℕ) (used : ℕ) → kept (kept b used) used ≡ kept b used
kept_again b used = go (leb used (length b)) refl
  where
    go : (t : Bool) → leb used (length b) ≡ t → kept (kept b used) used ≡ kept b used
    go true e =
        let l = leb-true used (length b) e in
        let n : length (take used b) ≡ used = length-take-le used b l in
        let k : length (kept b used) ≡ length b = length-append (take used b) (replicate (length b - used) 0) ∙ omega (arith, length-replicate {A = ℕ} (length b - used) 0) in
        ap₂ (λ (x : List ℕ) (m : ℕ). x ++ replicate (m - used) 0) (take_at (take used b) (replicate (length b - used) 0) used n) k
    go false e =
        let l = leb-false used (length b) e in
        let none : length b - used ≡ 0 = omega arith in
        let same : kept b used ≡ b = ap₂ (λ (x : List ℕ) (m : ℕ). x ++ replicate m 0) (take_all used b (omega arith)) none ∙ append-nil b in
        ap (λ (x : List ℕ). kept x used) same

-- ---- the tables

-- undone-by: given a byte that has a character in the wanted code page
abbrev SaysUndoneBy : Table → Type 0
SaysUndoneBy R = (w : Code) (b : ℕ) → (R w b ≡ no_byte → ⊥) → R (other w) (R w b) ≡ b

undone-by-says : SaysUndoneBy recoded
undone-by-says = undone-by

undone-by-not-same : (c : ℕ) → (c ≡ no_byte → ⊥) → SaysUndoneBy (λ w b. c) → ⊥
undone-by-not-same c n h = omega (arith, h Page437 0 n, h Page437 1 n)

-- No byte has a character. Shut out by `low-stays`.
undone-by-met-by-none : SaysUndoneBy (λ w b. no_byte)
undone-by-met-by-none w b n = absurd (n refl)

-- Every byte stays as it is. Shut out by `same-exactly`.
undone-by-met-by-itself : SaysUndoneBy itself
undone-by-met-by-itself w b n = go (leb b 255) refl n
  where
    go : (t : Bool) → leb b 255 ≡ t → (cond t b no_byte ≡ no_byte → ⊥) → itself (other w) (cond t b no_byte) ≡ b
    go true e m = rw e refl
    go false e m = absurd (m refl)

-- low-stays: given a byte below 80h
abbrev SaysLowStays : Table → Type 0
SaysLowStays R = (w : Code) (b : ℕ) → b < 128 → R w b ≡ b

low-stays-says : SaysLowStays recoded
low-stays-says = low-stays

low-stays-not-same : (c : ℕ) → SaysLowStays (λ w b. c) → ⊥
low-stays-not-same c h = omega (arith, h Page437 0 (omega arith), h Page437 1 (omega arith))

low-stays-not-none : SaysLowStays (λ w b. no_byte) → ⊥
low-stays-not-none = low-stays-not-same no_byte

low-stays-met-by-itself : SaysLowStays itself
low-stays-met-by-itself w b l = go (leb b 255) refl
  where
    go : (t : Bool) → leb b 255 ≡ t → cond t b no_byte ≡ b
    go true e = refl
    go false e = let m = leb-false b 255 e in absurd (omega arith)

-- high-stays: given a byte from 80h on
abbrev SaysHighStays : Table → Type 0
SaysHighStays R = (w : Code) (b : ℕ) → 128 ≤ b → (128 ≤ R w b) × (R w b ≤ no_byte)

high-stays-says : SaysHighStays recoded
high-stays-says = high-stays

high-stays-not-low : (c : ℕ) → c < 128 → SaysHighStays (λ w b. c) → ⊥
high-stays-not-low c l h = omega (arith, (h Page437 128 (omega arith)).0)

-- One byte from 80h on for all, or none. Shut out by `low-stays`.
high-stays-met-by-same : (c : ℕ) → 128 ≤ c → c ≤ no_byte → SaysHighStays (λ w b. c)
high-stays-met-by-same c l m w b h = (l, m)

high-stays-met-by-none : SaysHighStays (λ w b. no_byte)
high-stays-met-by-none = high-stays-met-by-same no_byte (omega arith) (omega arith)

high-stays-met-by-itself : SaysHighStays itself
high-stays-met-by-itself w b h = go (leb b 255) refl
  where
    go : (t : Bool) → leb b 255 ≡ t → (128 ≤ cond t b no_byte) × (cond t b no_byte ≤ no_byte)
    go true e = let m = leb-true b 255 e in (h, omega arith)
    go false e = (omega arith, omega arith)

-- same-exactly: given a byte of the wanted code page
abbrev SaysSameExactly : Table → Type 0
SaysSameExactly R = (w : Code) (b c : ℕ) → c < 256 → (R w b ≡ c) ↔ SameCharacter w b c

same-exactly-says : SaysSameExactly recoded
same-exactly-says = same-exactly

same-exactly-at : (R : Table) → SaysSameExactly R → (w : Code) (b c : ℕ) → c < 256 → (R w b ≡ c) ↔ (recoded w b ≡ c)
same-exactly-at R h w b c l = (λ e. (same-exactly w b c l).1 ((h w b c l).0 e), λ e. (h w b c l).1 ((same-exactly w b c l).0 e))

-- all tables but the one, wherever that has a byte
same-exactly-only : (R : Table) → SaysSameExactly R → (w : Code) (b : ℕ) → recoded w b < 256 → R w b ≡ recoded w b
same-exactly-only R h w b l = (same-exactly-at R h w b (recoded w b) l).1 refl

same-exactly-not-same : (c : ℕ) → SaysSameExactly (λ w b. c) → ⊥
unfolding table_into to1252
same-exactly-not-same c h = omega (arith, same-exactly-only (λ w b. c) h Page1252 0 (omega arith), same-exactly-only (λ w b. c) h Page1252 1 (omega arith))

same-exactly-not-none : SaysSameExactly (λ w b. no_byte) → ⊥
same-exactly-not-none = same-exactly-not-same no_byte

same-exactly-not-itself : SaysSameExactly itself → ⊥
unfolding table_into to1252
same-exactly-not-itself h = let z : ◌≡◌ {A = ℕ} 0x81 0xFC = same-exactly-only itself h Page1252 0x81 (omega arith) in omega arith

-- What stands where there is no byte, it does not say, if that is none. Shut out by `tables-follow`.
abbrev other_none : Table
other_none w b = cond (leb (recoded w b) 255) (recoded w b) 0x101

same-exactly-met-by-other-none : SaysSameExactly other_none
same-exactly-met-by-other-none w b c l = (λ e. (same-exactly w b c l).0 (there (leb (recoded w b) 255) refl e), λ s. back ((same-exactly w b c l).1 s))
  where
    there : (t : Bool) → leb (recoded w b) 255 ≡ t → cond t (recoded w b) 0x101 ≡ c → recoded w b ≡ c
    there true p e = e
    there false p e = absurd (omega arith)

    back : recoded w b ≡ c → other_none w b ≡ c
    back e = go (leb (recoded w b) 255) refl
      where
        go : (t : Bool) → leb (recoded w b) 255 ≡ t → cond t (recoded w b) 0x101 ≡ c
        go true p = e
        go false p = let m = leb-false (recoded w b) 255 p in absurd (omega arith)

-- tables-follow: nothing given
abbrev SaysTablesFollow : List ℕ → List ℕ → Type 0
SaysTablesFollow t u = (t ≡ map (byte_of column1252) column437) × (u ≡ map (byte_of column437) column1252)

tables-follow-says : SaysTablesFollow to1252 to437
tables-follow-says = tables-follow

-- no other tables meet it
tables-follow-only : (t u : List ℕ) → SaysTablesFollow t u → (t ≡ to1252) × (u ≡ to437)
tables-follow-only t u h = (h.0 ∙ sym tables-follow.0, h.1 ∙ sym tables-follow.1)

-- such as those where a byte is its own entry
tables-follow-not-itself : (t u : List ℕ) → get_or t 0x81 no_byte ≡ 0x81 → SaysTablesFollow t u → ⊥
unfolding to1252
tables-follow-not-itself t u e h =
    let z : ◌≡◌ {A = ℕ} 0x81 0xFC = sym e ∙ ap (λ (x : List ℕ). get_or x 0x81 no_byte) (tables-follow-only t u h).0 in
    omega arith

-- or where the same stands for every byte
tables-follow-not-same : (t u : List ℕ) → get_or t 0 no_byte ≡ get_or t 1 no_byte → SaysTablesFollow t u → ⊥
unfolding to1252
tables-follow-not-same t u e h =
    let x = (tables-follow-only t u h).0 in
    let z : ◌≡◌ {A = ℕ} 0 1 = sym (ap (λ (y : List ℕ). get_or y 0 no_byte) x) ∙ (e ∙ ap (λ (y : List ℕ). get_or y 1 no_byte) x) in
    omega arith

-- ---- the contract

-- of `recode::recode`: nothing given
abbrev SaysRecode : Caller → Type 0
SaysRecode C = (b : List ℕ) (used : ℕ) (w : Code) → C b used w ≡ recode_call b used w

recode-says : SaysRecode recode_call
recode-says b used w = refl

recode-not-refusing : (r : List ℕ → ℕ → Code → Refusal) (o : List ℕ → ℕ → Code → List ℕ) → SaysRecode (λ b used w. call (Err (r b used w)) (o b used w)) → ⊥
recode-not-refusing r o h = refused-made (ap (λ (c : Call ℕ). c.answer) (h p 51 Page437) ∙ ap made recode-p)

recode-not-same : (a : Call ℕ) → SaysRecode (λ b used w. a) → ⊥
unfolding p named in1252
recode-not-same a h =
    let e : Ok 51 ≡ Ok 61 =
    sym (ap made recode-p) ∙ (ap (λ (c : Call ℕ). c.answer) (sym (h p 51 Page437) ∙ h in437 61 Page1252) ∙ ap made recode-letter) in
    omega (arith, made-same e)

-- what the buffer of the letter holds then
letter-left : (recode_call in437 61 Page1252).buffer ≡ bytes_left (done in1252) in437
letter-left = ap (λ (y : Reply (List ℕ)). bytes_left y in437) recode-letter

recode-not-idle : (a : List ℕ → ℕ → Code → Made) → SaysRecode (λ b used w. call (a b used w) b) → ⊥
unfolding named in437 in1252
recode-not-idle a h =
    let z : ◌≡◌ {A = ℕ} 0x81 0xFC = ap (λ (x : List ℕ). get_or x 58 0) (ap (λ (c : Call ℕ). c.buffer) (h in437 61 Page1252) ∙ letter-left) in
    omega arith

recode-not-clearing : SaysRecode clearing → ⊥
unfolding named in437 in1252
recode-not-clearing h =
    let z : ◌≡◌ {A = ℕ} 0x81 0xFC = ap (λ (x : List ℕ). get_or x 58 0) (ap (λ (c : Call ℕ). c.buffer) (h in437 61 Page1252) ∙ letter-left) in
    omega arith

-- ---- "A set already in the wanted code stays as it is."

-- stays-call: given an accepted set in the wanted code page
abbrev SaysStaysCall : Caller → Type 0
SaysStaysCall C =
    (b : List ℕ) (used : ℕ) (w : Code) (fs : List Field) → used ≤ length b → read (take used b) ≡ done (parsed fs []) → in_code w fs ≡ true
    → ((C b used w).answer ≡ Ok used) × ((C b used w).buffer ≡ take used b ++ replicate (length b - used) 0)

stays-call-says : SaysStaysCall recode_call
stays-call-says = stays-call

-- what it asks of P
stays_p : (C : Caller) → SaysStaysCall C → (C p 51 Page437).answer ≡ Ok 51
unfolding p
stays_p C h = (h p 51 Page437 p_lines (omega arith) front-p p-437).0

stays-call-not-refusing : (r : List ℕ → ℕ → Code → Refusal) (o : List ℕ → ℕ → Code → List ℕ) → SaysStaysCall (λ b used w. call (Err (r b used w)) (o b used w)) → ⊥
stays-call-not-refusing r o h = refused-made (stays_p (λ b used w. call (Err (r b used w)) (o b used w)) h)

stays-call-not-same : (a : Call ℕ) → SaysStaysCall (λ b used w. a) → ⊥
unfolding named in1252
stays-call-not-same a h =
    let e = sym (stays_p (λ b used w. a) h) ∙ (h in1252 61 Page1252 (named_lines (line 9206 "3") 0xFC) (omega arith) front-1252 in-1252-so).0 in
    omega (arith, made-same e)

-- the byte behind the set becomes zero
stays-call-not-idle : (a : List ℕ → ℕ → Code → Made) → SaysStaysCall (λ b used w. call (a b used w) b) → ⊥
unfolding p
stays-call-not-idle a h =
    let z : ◌≡◌ {A = ℕ} 7 0 = ap (λ (x : List ℕ). get_or x 51 0) (h (p ++ (7 ∷ [])) 51 Page437 p_lines (omega arith) front-p-more p-437).1 in
    omega arith

-- One that leaves every set as it is. Shut out by `recoded-exactly`.
stays-call-met-by-clearing : SaysStaysCall clearing
stays-call-met-by-clearing b used w fs l r i = (refl, refl)

-- twice-call: given a recoding that was done
abbrev SaysTwiceCall : Caller → Type 0
SaysTwiceCall C =
    (b b' : List ℕ) (used n : ℕ) (w : Code) → Ok n ≡ (C b used w).answer → b' ≡ (C b used w).buffer → ((C b' n w).answer ≡ Ok n) × ((C b' n w).buffer ≡ b')

twice-call-says : SaysTwiceCall recode_call
twice-call-says = twice-call

-- one that makes every set longer by a byte
twice-call-not-longer : SaysTwiceCall (λ b used w. call (Ok (suc used)) b) → ⊥
twice-call-not-longer h = let e = (h [] [] 0 1 Page437 refl refl).0 in omega (arith, made-same e)

-- Nothing is done, the same always, or the buffer is as it was. Shut out by `stays-call`; if the bytes behind the set become zero, by `recoded-exactly`.
twice-call-met-by-refusing : (r : List ℕ → ℕ → Code → Refusal) → SaysTwiceCall (refusing r)
twice-call-met-by-refusing r b b' used n w e f = refused-made (sym e)

twice-call-met-by-same : (a : Call ℕ) → SaysTwiceCall (λ b used w. a)
twice-call-met-by-same a b b' used n w e f = (sym e, sym f)

twice-call-met-by-idle : SaysTwiceCall still
twice-call-met-by-idle b b' used n w e f = (refl, refl)

twice-call-met-by-clearing : SaysTwiceCall clearing
twice-call-met-by-clearing b b' used n w e f =
    let m : n ≡ used = made-same e in (refl, ap₂ kept f m ∙ (kept_again b used ∙ sym f))

-- ---- "and back"

-- back-call: given a set that names the other code page, and was recoded
abbrev SaysBackCall : Caller → Type 0
SaysBackCall C =
    (b b' : List ℕ) (used n : ℕ) (w : Code) (fs : List Field) → read (take used b) ≡ done (parsed fs []) → names_code (other w) fs ≡ true
    → Ok n ≡ (C b used w).answer → b' ≡ (C b used w).buffer
    → ((C b' n (other w)).answer ≡ Ok used) × ((C b' n (other w)).buffer ≡ take used b ++ replicate (length b - used) 0)

back-call-says : SaysBackCall recode_call
back-call-says = back-call

back-call-not-same : (n : ℕ) (o : List ℕ) → SaysBackCall (λ b used w. call (Ok n) o) → ⊥
unfolding named in437 in1252
back-call-not-same n o h =
    let x = (h in437 o 61 n Page1252 (named_lines (line 9206 "2") 0x81) front-437 says-437 refl refl).1 in
    let y = (h in1252 o 61 n Page437 (named_lines (line 9206 "3") 0xFC) front-1252 says-1252 refl refl).1 in
    let z : ◌≡◌ {A = ℕ} 0x81 0xFC = ap (λ (s : List ℕ). get_or s 58 0) (sym x ∙ y) in
    omega arith

-- whatever length it answers: the byte behind the set becomes zero
back-call-not-idle : (a : List ℕ → ℕ → Code → ℕ) → SaysBackCall (λ b used w. call (Ok (a b used w)) b) → ⊥
unfolding named in437
back-call-not-idle a h =
    let b : List ℕ = in437 ++ (7 ∷ []) in
    let x = (h b b 61 (a b 61 Page1252) Page1252 (named_lines (line 9206 "2") 0x81) front-437-more says-437 refl refl).1 in
    let z : ◌≡◌ {A = ℕ} 7 0 = ap (λ (s : List ℕ). get_or s 61 0) x in
    omega arith

-- Nothing is done, or every set stays as it is. Shut out by `recoded-exactly`.
back-call-met-by-refusing : (r : List ℕ → ℕ → Code → Refusal) → SaysBackCall (refusing r)
back-call-met-by-refusing r b b' used n w fs e s f g = refused-made (sym f)

back-call-met-by-clearing : SaysBackCall clearing
back-call-met-by-clearing b b' used n w fs e s f g =
    let m : n ≡ used = made-same f in (ap Ok m, ap₂ kept g m ∙ kept_again b used)

-- line-call: given a set without 9206 that was recoded to 1252
abbrev SaysLineCall : Caller → Type 0
SaysLineCall C =
    (b b' : List ℕ) (used n : ℕ) (fs : List Field) → read (take used b) ≡ done (parsed fs []) → has_charset fs ≡ false
    → Ok n ≡ (C b used Page1252).answer → b' ≡ (C b used Page1252).buffer
    → (n ≡ used + gained_bytes) × ((C b' n Page437).answer ≡ Ok n) × ((C b' n Page437).buffer ≡ leaves (resum (with_charset Page437 fs)) b)

line-call-says : SaysLineCall recode_call
line-call-says = line-call

line-call-not-same : (n : ℕ) (o : List ℕ) → SaysLineCall (λ b used w. call (Ok n) o) → ⊥
line-call-not-same n o h =
    let x = (h p o 51 n p_lines front-p p-no-charset refl refl).0 in
    let y = (h q o 55 n q_lines front-q q-no-charset refl refl).0 in
    omega arith

-- whatever length it answers: the line at 27 is still 014, not 010
line-call-not-idle : (a : List ℕ → ℕ → Code → ℕ) → SaysLineCall (λ b used w. call (Ok (a b used w)) b) → ⊥
unfolding computes p p_lines
line-call-not-idle a h =
    let b : List ℕ = p ++ replicate gained_bytes 0 in
    let z : ◌≡◌ {A = ℕ} 0x34 0x30 = ap (λ (s : List ℕ). get_or s 29 0) (h b b 51 (a b 51 Page1252) p_lines front-p-room p-no-charset refl refl).2 in
    omega arith

line-call-not-clearing : SaysLineCall clearing → ⊥
line-call-not-clearing h = let x = (h p (kept p 51) 51 51 p_lines front-p p-no-charset refl refl).0 in omega arith

-- Nothing is done. Shut out by `recoded-exactly`.
line-call-met-by-refusing : (r : List ℕ → ℕ → Code → Refusal) → SaysLineCall (refusing r)
line-call-met-by-refusing r b b' used n fs e s f g = refused-made (sym f)

-- seven-call: given an accepted set that says seven bits
abbrev SaysSevenCall : Caller → Type 0
SaysSevenCall C =
    (b b' : List ℕ) (used : ℕ) (w : Code) (fs : List Field) → used ≤ length b → read (take used b) ≡ done (parsed fs []) → seven_bit fs ≡ true → b' ≡ (C b used w).buffer
    → ((C b used w).answer ≡ Ok used) × (b' ≡ leaves (map (charset_field w) fs) b)
    × ((C b' used (other w)).answer ≡ Ok used) × ((C b' used (other w)).buffer ≡ leaves (map (charset_field (other w)) fs) b)

seven-call-says : SaysSevenCall recode_call
seven-call-says = seven-call

-- what it asks of the set: 2 or 3 stands at 34
seven_at : (C : Caller) → SaysSevenCall C → (w : Code) → ((C seven 61 w).answer ≡ Ok 61) × (get_or (C seven 61 w).buffer 34 0 ≡ get_or (charset_of w) 0 0)
unfolding computes named seven named_lines
seven_at C h Page437 =
    let x = h seven (C seven 61 Page437).buffer 61 Page437 (named_lines (line 9206 "1") 0x41) (omega arith) front-seven seven-bits refl in
    (x.0, ap (λ (s : List ℕ). get_or s 34 0) x.1)
seven_at C h Page1252 =
    let x = h seven (C seven 61 Page1252).buffer 61 Page1252 (named_lines (line 9206 "1") 0x41) (omega arith) front-seven seven-bits refl in
    (x.0, ap (λ (s : List ℕ). get_or s 34 0) x.1)

seven-call-not-refusing : (r : List ℕ → ℕ → Code → Refusal) (o : List ℕ → ℕ → Code → List ℕ) → SaysSevenCall (λ b used w. call (Err (r b used w)) (o b used w)) → ⊥
seven-call-not-refusing r o h = refused-made (seven_at (λ b used w. call (Err (r b used w)) (o b used w)) h Page437).0

seven-call-not-same : (a : Call ℕ) → SaysSevenCall (λ b used w. a) → ⊥
seven-call-not-same a h =
    let z : ◌≡◌ {A = ℕ} 0x32 0x33 = sym (seven_at (λ b used w. a) h Page437).1 ∙ (seven_at (λ b used w. a) h Page1252).1 in
    omega arith

seven-call-not-idle : (a : List ℕ → ℕ → Code → Made) → SaysSevenCall (λ b used w. call (a b used w) b) → ⊥
unfolding named seven
seven-call-not-idle a h = let z : ◌≡◌ {A = ℕ} 0x31 0x32 = (seven_at (λ b used w. call (a b used w) b) h Page437).1 in omega arith

seven-call-not-clearing : SaysSevenCall clearing → ⊥
unfolding named seven
seven-call-not-clearing h = let z : ◌≡◌ {A = ℕ} 0x31 0x32 = (seven_at clearing h Page437).1 in omega arith

-- One that names the wanted code page and recodes no content. Shut out by `recoded-exactly`.
abbrev pub marking : Caller
marking b used w = call (made (each_line charset_field b used w)) (bytes_left (each_line charset_field b used w) b)

marked-twice : (v w : Code) (fs : List Field) → map (charset_field v) (map (charset_field w) fs) ≡ map (charset_field v) fs
marked-twice v w [] = refl
marked-twice v w (f ∷ fs) = ap₂ (λ (x : Field) (xs : List Field). x ∷ xs) (go (eqb f.label 9206) refl) (marked-twice v w fs)
  where
    go : (t : Bool) → eqb f.label 9206 ≡ t → charset_field v (cond t (field 9206 (charset_of w)) f) ≡ charset_field v f
    go true e = rw e refl
    go false e = refl

size-marked : (w : Code) (fs : List Field) → Standing fs → size (map (charset_field w) fs) ≡ size fs
size-marked w fs st = size-map (charset_field w) (alters-mark w) (profile fs) first 0 fs (ruled fs st.right).0.each-line

marking-is : (b : List ℕ) (used : ℕ) (w : Code) (fs : List Field) → Holds b used fs
    → ((marking b used w).answer ≡ Ok used) × ((marking b used w).buffer ≡ leaves (map (charset_field w) fs) b)
marking-is b used w fs h =
    let all = accepted (take used b) (parsed fs []) h.front in
    let is : each_line charset_field b used w ≡ done (render (map (charset_field w) fs) []) =
    ap (λ (y : Reply Parsed). then_to y (λ d. done (render (map (charset_field w) d.fields) []))) h.front in
    let n : length (render (map (charset_field w) fs) []) ≡ used =
    length-render (map (charset_field w) fs) []
    ∙ omega (arith, size-marked w fs all.standing, ap length all.bytes, length-render fs [], length-take-le used b h.fits_in) in
    (ap made is ∙ ap Ok n, ap (λ (y : Reply (List ℕ)). bytes_left y b) is)

seven-call-met-by-marking : SaysSevenCall marking
seven-call-met-by-marking b b' used w fs l r s e =
    let all = accepted (take used b) (parsed fs []) r in
    let gs : List Field = map (charset_field w) fs in
    let x = marking-is b used w fs (record { fits_in = l; front = r }) in
    let left : b' ≡ leaves gs b = e ∙ x.1 in
    let n : size gs ≡ used = size-marked w fs all.standing ∙ omega (arith, ap length all.bytes, length-render fs [], length-take-le used b l) in
    let room : size gs ≤ length b = omega arith in
    let h : Holds (leaves gs b) (size gs) gs = holds-leaves gs b (marked-standing w fs all.standing) room in
    let y = marking-is b' used (other w) gs (subst (λ (z : List ℕ). Holds z used gs) (sym left) (subst (λ (k : ℕ). Holds (leaves gs b) k gs) n h)) in
    let same = left-by-length (render (map (charset_field (other w)) gs) []) b' b (ap length left ∙ length-leaves gs b room) in
    (x.0, left, y.0, y.1 ∙ (same ∙ ap (λ (ks : List Field). leaves ks b) (marked-twice (other w) w fs)))

-- ---- "Demand 2 holds before and after."

-- an idle function leaves only accepted sets
was-accepted : (b : List ℕ) (used : ℕ) (w : Code) (x : List ℕ) → idle (take used b) (recode b used w) ≡ done x → (y : Shape) × (judge x ≡ Ok y) × (y.length ≡ length x)
was-accepted b used w x e = go (recode b used w) refl e
  where
    go : (a : Reply (List ℕ)) → recode b used w ≡ a → idle (take used b) a ≡ done x → (y : Shape) × (judge x ≡ Ok y) × (y.length ≡ length x)
    go (refused r) f g = refused-done g
    go (done s) f g =
        let m = recode-only b used w s f in
        let same : take used b ≡ x = done-same g in
        let front : read x ≡ done (parsed m.lines []) = subst (λ (z : List ℕ). read z ≡ done (parsed m.lines [])) same m.held.front in
        let all = accepted x (parsed m.lines []) front in
        (shape m.lines, read-judge x (parsed m.lines []) front, omega (arith, ap length all.bytes, length-render m.lines []))

-- recode-judged: given a recoding that was done
abbrev SaysRecodeJudged : Recoder → Type 0
SaysRecodeJudged R = (b : List ℕ) (used : ℕ) (w : Code) (x : List ℕ) → R b used w ≡ done x → (y : Shape) × (judge x ≡ Ok y) × (y.length ≡ length x)

recode-judged-says : SaysRecodeJudged recode
recode-judged-says = recode-judged

recode-judged-not-none : SaysRecodeJudged (λ b used w. done []) → ⊥
recode-judged-not-none h = no-set (h [] 0 Page437 [] refl).1

recode-judged-not-leaving : SaysRecodeJudged leaving → ⊥
recode-judged-not-leaving h = no-set (h [] 0 Page437 [] refl).1

-- Refuses all, makes P always, or leaves the sets that are to be recoded as they are. Shut out by `recoded-exactly`.
recode-judged-met-by-refusing : (r : List ℕ → ℕ → Code → Refusal) → SaysRecodeJudged (λ b used w. refused (r b used w))
recode-judged-met-by-refusing r b used w x e = refused-done e

recode-judged-met-by-same : SaysRecodeJudged (λ b used w. done p)
recode-judged-met-by-same b used w x e = recode-judged p 51 Page437 x (recode-p ∙ e)

recode-judged-met-by-idle : SaysRecodeJudged (λ b used w. idle (take used b) (recode b used w))
recode-judged-met-by-idle b used w x e = was-accepted b used w x e

-- judged-call: given a recoding that was done
abbrev SaysJudgedCall : Caller → Type 0
SaysJudgedCall C =
    (b b' : List ℕ) (used n : ℕ) (w : Code) → Ok n ≡ (C b used w).answer → b' ≡ (C b used w).buffer → (y : Shape) × (judge (take n b') ≡ Ok y) × (y.length ≡ n)

judged-call-says : SaysJudgedCall recode_call
judged-call-says = judged-call

take_none : (n : ℕ) → ◌≡◌ {A = List ℕ} (take n []) []
take_none n = take_all n [] (omega arith)

-- whatever length it answers
judged-call-not-idle : (a : List ℕ → ℕ → Code → ℕ) → SaysJudgedCall (λ b used w. call (Ok (a b used w)) b) → ⊥
judged-call-not-idle a h =
    let n : ℕ = a [] 0 Page437 in
    no-set (sym (ap judge (take_none n)) ∙ (h [] [] 0 n Page437 refl refl).1)

-- another length than that of the set
judged-call-not-other-length : SaysJudgedCall (λ b used w. call (Ok 50) p) → ⊥
unfolding computes p
judged-call-not-other-length h = refused-accepted (h [] p 0 50 Page437 refl refl).1

-- Refuses all, or makes P always. Shut out by `recoded-exactly`.
judged-call-met-by-refusing : (r : List ℕ → ℕ → Code → Refusal) → SaysJudgedCall (refusing r)
judged-call-met-by-refusing r b b' used n w e f = refused-made (sym e)

judged-call-met-by-same : SaysJudgedCall (λ b used w. call (Ok 51) p)
unfolding p
judged-call-met-by-same b b' used n w e f =
    judged-call p b' 51 n Page437 (e ∙ sym (ap made recode-p)) (f ∙ sym (ap (λ (y : Reply (List ℕ)). bytes_left y p) recode-p))

-- recode-wanted: given a recoding that was done
abbrev SaysRecodeWanted : Recoder → Type 0
SaysRecodeWanted R =
    (b : List ℕ) (used : ℕ) (w : Code) (x : List ℕ) → R b used w ≡ done x
    → (gs : List Field) × (read x ≡ done (parsed gs [])) × (in_code w gs ≡ true) × (w ≡ Page1252 → has_charset gs ≡ true)

recode-wanted-says : SaysRecodeWanted recode
recode-wanted-says = recode-wanted

-- no set is in both code pages
pub not-both : (x : List ℕ) (gs : List Field) → read x ≡ done (parsed gs []) → in_code Page1252 gs ≡ true → has_charset gs ≡ true → in_code Page437 gs ≡ true → ⊥
unfolding in_code
not-both x gs r e c f =
    let st : Standing gs = (accepted x (parsed gs []) r).standing in
    let h = says-hold Page1252 gs (one-charset gs (ruled gs st.right).0) e in
    true≢false (sym f ∙ not-in-code Page437 (charset_of Page1252) gs (marks-differ Page1252).0 h c)

recode-wanted-not-same : (x : List ℕ) → SaysRecodeWanted (λ b used w. done x) → ⊥
recode-wanted-not-same x h =
    let u = h [] 0 Page437 x refl in
    let v = h [] 0 Page1252 x refl in
    let same : u.0 ≡ v.0 = ap (λ (d : Parsed). d.fields) (done-same (sym u.1 ∙ v.1)) in
    not-both x v.0 v.1 v.2 (v.3 refl) (subst (λ (gs : List Field). in_code Page437 gs ≡ true) same u.2)

-- what it asks of a set that is left in 437
left-in-437 : (R : Recoder) → SaysRecodeWanted R → R in437 61 Page1252 ≡ done (take 61 in437) → ⊥
left-in-437 R h e =
    let u = h in437 61 Page1252 (take 61 in437) e in
    let same : u.0 ≡ named_lines (line 9206 "2") 0x81 = ap (λ (d : Parsed). d.fields) (done-same (sym u.1 ∙ front-437)) in
    true≢false (sym (subst (λ (gs : List Field). in_code Page1252 gs ≡ true) same u.2) ∙ not-1252)

recode-wanted-not-leaving : SaysRecodeWanted leaving → ⊥
recode-wanted-not-leaving h = left-in-437 leaving h refl

recode-wanted-not-idle : SaysRecodeWanted (λ b used w. idle (take used b) (recode b used w)) → ⊥
recode-wanted-not-idle h = left-in-437 (λ b used w. idle (take used b) (recode b used w)) h (ap (idle (take 61 in437)) recode-letter)

-- Refuses all, or makes one of two sets always, each in a wanted code page. Shut out by `recoded-exactly`.
recode-wanted-met-by-refusing : (r : List ℕ → ℕ → Code → Refusal) → SaysRecodeWanted (λ b used w. refused (r b used w))
recode-wanted-met-by-refusing r b used w x e = refused-done e

abbrev one_of_two : Code → List ℕ
one_of_two Page437 = p
one_of_two Page1252 = in1252

recode-wanted-met-by-two : SaysRecodeWanted (λ b used w. done (one_of_two w))
recode-wanted-met-by-two b used Page437 x e = recode-wanted p 51 Page437 x (recode-p ∙ e)
recode-wanted-met-by-two b used Page1252 x e = recode-wanted in437 61 Page1252 x (recode-letter ∙ e)

recoded-exactly-not-two : SaysRecodedExactly (λ b used w. done (one_of_two w)) → ⊥
unfolding computes recode_computes
recoded-exactly-not-two h = refused-done {r = refusal 1 0 0} ((recoded-exactly-at (λ b used w. done (one_of_two w)) h [] 0 Page437 p).0 refl)

-- recode-list-write: given a recoding that was done
abbrev WrittenAgain : List ℕ → Type 0
WrittenAgain x = (l : List ℕ) × ((room : ℕ) → length l ≤ room → list x room ≡ done l) × ((room : ℕ) → length x ≤ room → write l room ≡ done x)

abbrev SaysRecodeListWrite : Recoder → Type 0
SaysRecodeListWrite R = (b : List ℕ) (used : ℕ) (w : Code) (x : List ℕ) → R b used w ≡ done x → WrittenAgain x

recode-list-write-says : SaysRecodeListWrite recode
recode-list-write-says = recode-list-write

none-listed : WrittenAgain [] → ⊥
unfolding computes
none-listed h = refused-done (h.1 (length h.0) (omega arith))

recode-list-write-not-none : SaysRecodeListWrite (λ b used w. done []) → ⊥
recode-list-write-not-none h = none-listed (h [] 0 Page437 [] refl)

recode-list-write-not-leaving : SaysRecodeListWrite leaving → ⊥
recode-list-write-not-leaving h = none-listed (h [] 0 Page437 [] refl)

-- Refuses all, makes P always, or leaves the sets that are to be recoded as they are. Shut out by `recoded-exactly`.
recode-list-write-met-by-refusing : (r : List ℕ → ℕ → Code → Refusal) → SaysRecodeListWrite (λ b used w. refused (r b used w))
recode-list-write-met-by-refusing r b used w x e = refused-done e

recode-list-write-met-by-same : SaysRecodeListWrite (λ b used w. done p)
recode-list-write-met-by-same b used w x e = recode-list-write p 51 Page437 x (recode-p ∙ e)

recode-list-write-met-by-idle : SaysRecodeListWrite (λ b used w. idle (take used b) (recode b used w))
recode-list-write-met-by-idle b used w x e =
    let j = was-accepted b used w x e in
    let t = list-there x j.0 j.1 in
    let all : take j.0.length x ≡ x = take_all j.0.length x (omega (arith, j.2)) in
    (t.0, t.1, λ room h. list-write x j.0 t.0 (length t.0) room j.1 (t.1 (length t.0) (omega arith)) (omega (arith, j.2)) ∙ ap done all)

-- ---- "After a refusal every lent buffer holds what it held before."

-- refused-recode: given a refusal
abbrev SaysRefusedRecode : Caller → Type 0
SaysRefusedRecode C =
    (b : List ℕ) (used : ℕ) (w : Code) (r : Refusal) → (C b used w).answer ≡ Err r → (made_count (C b used w).answer ≡ 0) × ((C b used w).buffer ≡ b)

refused-recode-says : SaysRefusedRecode recode_call
refused-recode-says = refused-recode

refused-recode-not-clearing : (r : List ℕ → ℕ → Code → Refusal) → SaysRefusedRecode (λ b used w. call (Err (r b used w)) (replicate (length b) 0)) → ⊥
refused-recode-not-clearing r h =
    let z : ◌≡◌ {A = ℕ} 0 7 = ap (λ (x : List ℕ). get_or x 0 0) (h (7 ∷ []) 0 Page437 (r (7 ∷ []) 0 Page437) refl).1 in
    omega arith

refused-recode-not-same : (r : Refusal) (o : List ℕ) → SaysRefusedRecode (λ b used w. call (Err r) o) → ⊥
refused-recode-not-same r o h =
    let z : ◌≡◌ {A = ℕ} 0 1 = ap length (sym (h [] 0 Page437 r refl).1 ∙ (h (7 ∷ []) 0 Page437 r refl).1) in
    omega arith

-- Never writes, whatever it answers; or always does the same. Shut out by the contract, `recoded-exactly` and `recode-refused-with`.
refused-recode-met-by-idle : (a : List ℕ → ℕ → Code → Made) → SaysRefusedRecode (λ b used w. call (a b used w) b)
refused-recode-met-by-idle a b used w r e = (ap made_count e, refl)

refused-recode-met-by-refusing : (r : List ℕ → ℕ → Code → Refusal) → SaysRefusedRecode (refusing r)
refused-recode-met-by-refusing r = refused-recode-met-by-idle (λ b used w. Err (r b used w))

refused-recode-met-by-same : (n : ℕ) (o : List ℕ) → SaysRefusedRecode (λ b used w. call (Ok n) o)
refused-recode-met-by-same n o b used w r e = refused-made (sym e)

-- ---- which numbers

-- recode-numbers: nothing given
abbrev SaysRecodeNumbers : Recoder → Type 0
SaysRecodeNumbers R = (b : List ℕ) (used : ℕ) (w : Code) → Numbered (OneOf recode_numbers) (R b used w)

recode-numbers-says : SaysRecodeNumbers recode
recode-numbers-says = recode-numbers

-- for example 19, the refusal of a correction
recode-numbers-not-other : SaysRecodeNumbers (λ b used w. refused (refusal 19 0 0)) → ⊥
unfolding computes
recode-numbers-not-other h = true≢false (sym (h [] 0 Page437))

-- Refuses all by 1, does the same always, or leaves every set as it is. Shut out by `recoded-exactly` and `recode-refused-with`.
recode-numbers-met-by-refusing : SaysRecodeNumbers (λ b used w. refused (refusal 1 0 0))
unfolding computes
recode-numbers-met-by-refusing b used w = refl

recode-numbers-met-by-same : (x : List ℕ) → SaysRecodeNumbers (λ b used w. done x)
recode-numbers-met-by-same x b used w = tt

recode-numbers-met-by-leaving : SaysRecodeNumbers leaving
recode-numbers-met-by-leaving b used w = tt

-- ---- on lines

-- recoded-stands: given lines that keep every rule, and no fault
abbrev SaysRecodedStands : (Code → List Field → List Field) → Type 0
SaysRecodedStands F = (w : Code) (fs : List Field) → Standing fs → recode_faults w fs ≡ [] → Standing (F w fs)

recoded-stands-says : SaysRecodedStands recode_lines
recoded-stands-says = recoded-stands

pub standing-p : Standing p_lines
standing-p = (accepted (take 51 p) (parsed p_lines []) front-p).standing

p-no-faults : recode_faults Page437 p_lines ≡ []
unfolding computes recode_computes p_lines
p-no-faults = refl

recoded-stands-not-none : SaysRecodedStands (λ w fs. []) → ⊥
unfolding computes
recoded-stands-not-none h = refused-done {r = refusal 1 0 0} (read-render [] [] (h Page437 p_lines standing-p p-no-faults) refl)

-- Changes nothing, or makes P of every set. Shut out by `recode-wanted`, `recoded-exactly`.
recoded-stands-met-by-idle : SaysRecodedStands (λ w fs. fs)
recoded-stands-met-by-idle w fs st e = st

recoded-stands-met-by-same : SaysRecodedStands (λ w fs. p_lines)
recoded-stands-met-by-same w fs st e = standing-p
