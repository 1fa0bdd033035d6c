-- What the theorems of recoding shut out, tried, as in ShutOut of crate `examples`: `SaysX` is the statement of theorem x with any function in the place of the definition, `x-says` the
-- theorem itself; then trivial functions are put in. docs/PROMISES.md has the table of it: "What each theorem asks, and what it shuts out".
use mathlib.Core.Path.{◌≡◌, refl, sym, ap, ◌∙◌}
use mathlib.Core.List.{List, [], ◌∷◌, ◌++◌, map}
use mathlib.Core.Logic.{◌↔◌}
use Prim.Native.Nat.{ℕ}
use native.Mathlib.Omega.{arith}
use lib.ListN.{length, take, get_or, replicate}
use Rattle.meaning.specs.declared.Refusal.{Refusal}
use Rattle.meaning.specs.Field.{Field, field}
use Rattle.meaning.specs.Refusals.{Reply, refused, done, refusal, then_to}
use Rattle.meaning.specs.Lines.{render}
use Rattle.meaning.specs.Reading.{read}
use Rattle.meaning.specs.Computes.{computes}
use Rattle.meaning.proofs.Asking.{line, set_of}
use Rattle.meaning.proofs.FaultLaws.{refused-done, done-same}
use Rattle.breaches.proofs.CallExact.{refused-same}
use Rattle.meaning_recode.specs.declared.Code.{Code}
use Rattle.meaning_recode.specs.declared.Code.TheVariants.{Page437, Page1252}
use Rattle.meaning_recode.specs.Recoding.{recode_field, charset_field, recode}
use Rattle.meaning_recode.specs.RecodeComputes.{recode_computes}
use Rattle.theory_recode.specs.RecodeRules.{Recodes}
use Rattle.theory_recode.specs.RecodeBreaches.{RecodeRefused}
use Rattle.theory_recode.proofs.RecodeExact.{recoded-exactly, recode-refused-with}

-- ---- the inputs

-- the paper's set P: 51 bytes without 9206, so in code page 437; and with the line that it gains
unfoldable pub p : List ℕ
p = set_of (line 8000 "6300" ∷ line 9218 "02.10" ∷ line 3000 "0" ∷ [])

p_gained : List ℕ
p_gained = set_of (line 8000 "6300" ∷ line 9206 "3" ∷ line 9218 "02.10" ∷ line 3000 "0" ∷ [])

-- 61 bytes that name their code page; the last content is one byte, at 58
unfoldable pub named : Field → ℕ → List ℕ
named f b = set_of (line 8000 "6300" ∷ f ∷ line 9218 "02.10" ∷ field 3000 (b ∷ []) ∷ [])

-- the same letter in both code pages
unfoldable pub in437 : List ℕ
in437 = named (line 9206 "2") 0x81

unfoldable pub in1252 : List ℕ
in1252 = named (line 9206 "3") 0xFC

-- a piece of a frame, which 1252 has not
framed : List ℕ
framed = named (line 9206 "2") 0xB0

pub recode-p : recode p 51 Page437 ≡ done p
unfolding computes recode_computes p
recode-p = refl

recode-p-gains : recode (p ++ replicate 10 0) 51 Page1252 ≡ done p_gained
unfolding computes recode_computes p p_gained
recode-p-gains = refl

recode-p-no-room : recode p 51 Page1252 ≡ refused (refusal 22 61 0)
unfolding computes recode_computes p
recode-p-no-room = refl

pub recode-letter : recode in437 61 Page1252 ≡ done in1252
unfolding computes recode_computes named in437 in1252
recode-letter = refl

recode-framed : recode framed 61 Page1252 ≡ refused (refusal 27 58 0)
unfolding computes recode_computes named framed
recode-framed = refl

-- the letter's byte is another one
other_byte : ◌≡◌ {A = Reply (List ℕ)} (done in437) (done in1252) → ⊥
unfolding named in437 in1252
other_byte e = let z : ◌≡◌ {A = ℕ} 0x81 0xFC = ap (λ (xs : List ℕ). get_or xs 58 0) (done-same e) in omega arith

other_length : ◌≡◌ {A = Reply (List ℕ)} (done p) (done in1252) → ⊥
unfolding p named in1252
other_length e = let z : ◌≡◌ {A = ℕ} 51 61 = ap length (done-same e) in omega arith

-- what each theorem is about
abbrev pub Recoder : Type 0
Recoder = List ℕ → ℕ → Code → Reply (List ℕ)

-- leaves every set as it is
abbrev pub leaving : Recoder
leaving b used w = done (take used b)

-- puts this in the place of every line of a set
abbrev pub each_line : (Code → Field → Field) → Recoder
each_line g b used w = then_to (read (take used b)) (λ d. done (render (map (g w) d.fields) []))

-- refuses what is to be refused, and leaves every other set as it is
abbrev pub idle : List ℕ → Reply (List ℕ) → Reply (List ℕ)
idle b (refused r) = refused r
idle b (done x) = done b

-- does what is to be done, and refuses the rest always by 1
abbrev by_one : Reply (List ℕ) → Reply (List ℕ)
by_one (refused r) = refused (refusal 1 0 0)
by_one (done x) = done x

done-by-one : (a : Reply (List ℕ)) (x : List ℕ) → (by_one a ≡ done x) ↔ (a ≡ done x)
done-by-one (refused r) x = (λ e. refused-done e, λ e. refused-done e)
done-by-one (done y) x = (λ e. e, λ e. e)

refused-idle : (b : List ℕ) (a : Reply (List ℕ)) (r : Refusal) → (idle b a ≡ refused r) ↔ (a ≡ refused r)
refused-idle b (refused y) r = (λ e. e, λ e. e)
refused-idle b (done x) r = (λ e. refused-done (sym e), λ e. refused-done (sym e))

-- refuses what is to be refused, always with place 0
abbrev at_zero : Reply (List ℕ) → Reply (List ℕ)
at_zero (refused r) = refused (refusal r.no 0 r.label)
at_zero (done x) = done x

-- ---- recoded exactly

-- recoded-exactly: nothing given
abbrev pub SaysRecodedExactly : Recoder → Type 0
SaysRecodedExactly recode = (b : List ℕ) (used : ℕ) (w : Code) (out : List ℕ) → (recode b used w ≡ done out) ↔ Recodes b used w out

recoded-exactly-says : SaysRecodedExactly recode
recoded-exactly-says = recoded-exactly

pub recoded-exactly-at : (R : Recoder) → SaysRecodedExactly R → (b : List ℕ) (used : ℕ) (w : Code) (out : List ℕ) → (R b used w ≡ done out) ↔ (recode b used w ≡ done out)
recoded-exactly-at R h b used w out = (λ e. (recoded-exactly b used w out).1 ((h b used w out).0 e), λ e. (h b used w out).1 ((recoded-exactly b used w out).0 e))

recoded-exactly-not-refusing : (r : List ℕ → ℕ → Code → Refusal) → SaysRecodedExactly (λ b used w. refused (r b used w)) → ⊥
recoded-exactly-not-refusing r h = refused-done ((recoded-exactly-at (λ b used w. refused (r b used w)) h p 51 Page437 p).1 recode-p)

recoded-exactly-not-same : (a : Reply (List ℕ)) → SaysRecodedExactly (λ b used w. a) → ⊥
recoded-exactly-not-same a h =
    other_length (sym ((recoded-exactly-at (λ b used w. a) h p 51 Page437 p).1 recode-p) ∙ (recoded-exactly-at (λ b used w. a) h in437 61 Page1252 in1252).1 recode-letter)

recoded-exactly-not-leaving : SaysRecodedExactly leaving → ⊥
unfolding p
recoded-exactly-not-leaving h = refused-done (sym recode-p-no-room ∙ (recoded-exactly-at leaving h p 51 Page1252 p).0 refl)

-- nor one that leaves as they are those sets that are to be recoded, and refuses the others
recoded-exactly-not-idle : SaysRecodedExactly (λ b used w. idle (take used b) (recode b used w)) → ⊥
unfolding named in437
recoded-exactly-not-idle h =
    other_byte (sym (ap (idle (take 61 in437)) recode-letter) ∙ (recoded-exactly-at (λ b used w. idle (take used b) (recode b used w)) h in437 61 Page1252 in1252).1 recode-letter)

-- nor one that names the wanted code page and recodes no content
recoded-exactly-not-marking : SaysRecodedExactly (each_line charset_field) → ⊥
unfolding computes named in437 in1252
recoded-exactly-not-marking h =
    let e : done (named (line 9206 "3") 0x81) ≡ done in1252 = (recoded-exactly-at (each_line charset_field) h in437 61 Page1252 in1252).1 recode-letter in
    let z : ◌≡◌ {A = ℕ} 0x81 0xFC = ap (λ (xs : List ℕ). get_or xs 58 0) (done-same e) in
    omega arith

-- nor one that recodes the contents and leaves the name of the old code page, a 2 at 34
recoded-exactly-not-unmarked : SaysRecodedExactly (each_line recode_field) → ⊥
unfolding computes recode_computes named in437 in1252
recoded-exactly-not-unmarked h =
    let e : done (named (line 9206 "2") 0xFC) ≡ done in1252 = (recoded-exactly-at (each_line recode_field) h in437 61 Page1252 in1252).1 recode-letter in
    let z : ◌≡◌ {A = ℕ} 0x32 0x33 = ap (λ (xs : List ℕ). get_or xs 34 0) (done-same e) in
    omega arith

-- nor one that does not look at the room
recoded-exactly-not-roomless : SaysRecodedExactly (λ b used w. recode (b ++ replicate 10 0) used w) → ⊥
recoded-exactly-not-roomless h =
    refused-done (sym recode-p-no-room ∙ (recoded-exactly-at (λ b used w. recode (b ++ replicate 10 0) used w) h p 51 Page1252 p_gained).0 recode-p-gains)

-- It does not say by which number is refused else. Shut out by `recode-refused-with`.
recoded-exactly-met-by-one-number : SaysRecodedExactly (λ b used w. by_one (recode b used w))
recoded-exactly-met-by-one-number b used w out =
    let x = recoded-exactly b used w out in let y = done-by-one (recode b used w) out in (λ e. x.0 (y.0 e), λ d. y.1 (x.1 d))

-- ---- refused with

-- recode-refused-with: nothing given
abbrev SaysRecodeRefusedWith : Recoder → Type 0
SaysRecodeRefusedWith recode = (b : List ℕ) (used : ℕ) (w : Code) (r : Refusal) → (recode b used w ≡ refused r) ↔ RecodeRefused b used w r

recode-refused-with-says : SaysRecodeRefusedWith recode
recode-refused-with-says = recode-refused-with

recode-refused-with-at : (R : Recoder) → SaysRecodeRefusedWith R → (b : List ℕ) (used : ℕ) (w : Code) (r : Refusal) → (R b used w ≡ refused r) ↔ (recode b used w ≡ refused r)
recode-refused-with-at R h b used w r = (λ e. (recode-refused-with b used w r).1 ((h b used w r).0 e), λ e. (h b used w r).1 ((recode-refused-with b used w r).0 e))

recode-refused-with-not-refusing : (r : List ℕ → ℕ → Code → Refusal) → SaysRecodeRefusedWith (λ b used w. refused (r b used w)) → ⊥
recode-refused-with-not-refusing r h =
    refused-done (sym ((recode-refused-with-at (λ b used w. refused (r b used w)) h p 51 Page437 (r p 51 Page437)).0 refl) ∙ recode-p)

recode-refused-with-framed : (R : Recoder) → SaysRecodeRefusedWith R → R framed 61 Page1252 ≡ refused (refusal 27 58 0)
recode-refused-with-framed R h = (recode-refused-with-at R h framed 61 Page1252 (refusal 27 58 0)).1 recode-framed

recode-refused-with-not-same : (a : Reply (List ℕ)) → SaysRecodeRefusedWith (λ b used w. a) → ⊥
recode-refused-with-not-same (refused r) h = recode-refused-with-not-refusing (λ b used w. r) h
recode-refused-with-not-same (done x) h = refused-done (sym (recode-refused-with-framed (λ b used w. done x) h))

recode-refused-with-not-leaving : SaysRecodeRefusedWith leaving → ⊥
recode-refused-with-not-leaving h = refused-done (sym (recode-refused-with-framed leaving h))

recode-refused-with-not-one-number : SaysRecodeRefusedWith (λ b used w. by_one (recode b used w)) → ⊥
recode-refused-with-not-one-number h =
    let e = sym (ap by_one recode-framed) ∙ recode-refused-with-framed (λ b used w. by_one (recode b used w)) h in
    let z : ◌≡◌ {A = ℕ} 1 27 = ap (λ (y : Refusal). y.no) (refused-same e) in
    omega arith

-- nor one that does not say where the byte stands
recode-refused-with-not-at-zero : SaysRecodeRefusedWith (λ b used w. at_zero (recode b used w)) → ⊥
recode-refused-with-not-at-zero h =
    let e = sym (ap at_zero recode-framed) ∙ recode-refused-with-framed (λ b used w. at_zero (recode b used w)) h in
    let z : ◌≡◌ {A = ℕ} 0 58 = ap (λ (y : Refusal). y.place) (refused-same e) in
    omega arith

-- It does not say what is made of the others. Shut out by `recoded-exactly`.
recode-refused-with-met-by-idle : SaysRecodeRefusedWith (λ b used w. idle (take used b) (recode b used w))
recode-refused-with-met-by-idle b used w r =
    let x = recode-refused-with b used w r in let y = refused-idle (take used b) (recode b used w) r in (λ e. x.0 (y.0 e), λ d. y.1 (x.1 d))

-- ---- both

-- together they leave no other function
recode-only : (R : Recoder) → SaysRecodedExactly R → SaysRecodeRefusedWith R → (b : List ℕ) (used : ℕ) (w : Code) → R b used w ≡ recode b used w
recode-only R h g b used w = go (recode b used w) refl
  where
    go : (a : Reply (List ℕ)) → recode b used w ≡ a → R b used w ≡ recode b used w
    go (refused r) e = (recode-refused-with-at R g b used w r).1 e ∙ sym e
    go (done x) e = (recoded-exactly-at R h b used w x).1 e ∙ sym e
