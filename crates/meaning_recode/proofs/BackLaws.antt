-- There and back: a set that named the other code page is as it was; one without 9206 keeps the line that it gained; one that said seven bits names the code page. And recoding twice is recoding once.
use mathlib.Core.Path.{◌≡◌, refl, sym, ap, ap₂, ◌∙◌, subst}
use mathlib.Core.Bool.{Bool, true, false, cond, not, true≢false}
use mathlib.Core.List.{List, [], ◌∷◌, map}
use Prim.Native.Nat.{ℕ, ◌+◌, ◌≤◌}
use native.Mathlib.Omega.{arith}
use lib.Dec.{eqb}
use lib.ListN.{length, length-map}
use borrow.Author.Tests.{eqb-true, eqb-false}
use Rattle.meaning.specs.Digits.{digits}
use Rattle.meaning.specs.Field.{Field, field}
use Rattle.meaning.specs.Lines.{line_size, size, high_bytes}
use Rattle.meaning.specs.Rules.{seven_bit, high_from}
use Rattle.meaning.specs.Lists.{sum_digits, sum_field, sum_line}
use Rattle.meaning.specs.Corrections.{resum}
use Rattle.meaning.proofs.Bools.{Every, or_right}
use Rattle.meaning.proofs.DigitLaws.{digits-all, plain-digits}
use Rattle.meaning.proofs.FaultLaws.{append-none, none_both, if_none, if-back, Plain, highs-back}
use Rattle.meaning.proofs.RuleLaws.{ruled, high-back}
use Rattle.meaning.proofs.SetLaws.{Standing, sum_back}
use Rattle.meaning.proofs.CorrectionLaws.{upright, two}
use Rattle.meaning_recode.specs.declared.Code.{Code}
use Rattle.meaning_recode.specs.declared.Code.TheVariants.{Page437, Page1252}
use Rattle.meaning_recode.specs.Codes.{no_byte, to1252, to437, table_into, recoded}
use Rattle.meaning_recode.specs.Recoding.{charset_of, names_code, has_charset, in_code, all_recoded, gains, added_faults, no_character_bytes, no_character_from, recode_faults}
use Rattle.meaning_recode.specs.Recoding.{recode_field, charset_field, with_charset, recode_lines}
use Rattle.meaning_recode.proofs.CodeLaws.{other, undone-by}
use Rattle.meaning_recode.proofs.KindLaws.{Told, told_back, told_none, length-kept, plain-stays, plain-told, digits-stay}
use Rattle.meaning_recode.proofs.InsertLaws.{NoCharset, no-charset}
use Rattle.meaning_recode.proofs.MapLaws.{mark-other, one-byte, mark-eight, pick}
use Rattle.meaning_recode.proofs.StandLaws.{says-has, seven-has, says-marked, says-gained, charset-kept, recoded-in-code}
use Rattle.meaning_recode.proofs.CharsetLaws.{one-charset, AllHold, none-hold, says-hold, seven-hold, marked-hold, not-seven-bits, not-in-code, marks-differ, seven-no-mark}

-- ---- no fault

-- every byte of every line has a character in the wanted code page
abbrev pub AllTold : Code → List Field → Type 0
AllTold w fs = Every (λ f. Told w f.content) fs

pub unknown-back : (w : Code) (k : ℕ) (fs : List Field) → no_character_from w k fs ≡ [] → AllTold w fs
unfolding no_character_from
unknown-back w k [] e = tt
unknown-back w k (f ∷ fs) e =
    let a = append-none (no_character_bytes w k 0 f.content) _ e in
    (told_back w k 0 f.content a.0, unknown-back w (k + 1) fs a.1)

pub unknown-none : (w : Code) (k : ℕ) (fs : List Field) → AllTold w fs → no_character_from w k fs ≡ []
unfolding no_character_from
unknown-none w k [] h = refl
unknown-none w k (f ∷ fs) h = none_both (no_character_bytes w k 0 f.content) _ (told_none w k 0 f.content h.0) (unknown-none w (k + 1) fs h.1)

told_of : (w : Code) (fs : List Field) → recode_faults w fs ≡ [] → in_code w fs ≡ false → seven_bit fs ≡ false → AllTold w fs
unfolding recode_faults all_recoded
told_of w fs e p q =
    unknown-back w 0 fs (if-back (all_recoded w fs) (no_character_from w 0 fs) (append-none (added_faults w fs) _ e).1 (rw (p, q)))

no-faults : (w : Code) (fs : List Field) → gains w fs ≡ false → (all_recoded w fs ≡ true → AllTold w fs) → recode_faults w fs ≡ []
unfolding recode_faults
no-faults w fs g h = rw g (if_none (all_recoded w fs) (no_character_from w 0 fs) (λ b. unknown-none w 0 fs (h b)))

-- a set that names something gains no line
pub named-gains-none : (w : Code) (fs : List Field) → has_charset fs ≡ true → gains w fs ≡ false
named-gains-none w fs q = ap not (or_right (in_code w fs) q)

-- recoding the lines hs into v has no fault, gains no line, and gives the lines ks
pub record Becomes (v : Code) (hs ks : List Field) : Type 0 where
  pub without-fault : recode_faults v hs ≡ []
  pub without-gain : gains v hs ≡ false
  pub lines-so : recode_lines v hs ≡ ks

-- ---- a set in the wanted code page stays as it is

pub stays : (w : Code) (fs : List Field) → in_code w fs ≡ true → Becomes w fs fs
unfolding recode_lines all_recoded
stays w fs e =
    let gain : gains w fs ≡ false = rw e in
    let all : all_recoded w fs ≡ false = rw e in
    record { without-fault = no-faults w fs gain (λ b. absurd (true≢false (sym b ∙ all))); without-gain = gain; lines-so = rw e }

-- recoding twice to the same code page is recoding once
pub twice : (w : Code) (fs : List Field) → Standing fs → Becomes w (recode_lines w fs) (recode_lines w fs)
twice w fs st = stays w (recode_lines w fs) (recoded-in-code w fs st)

-- ---- bytes there and back

no-byte-none : (w : Code) → recoded w no_byte ≡ no_byte
unfolding table_into to437 to1252
no-byte-none Page437 = refl
no-byte-none Page1252 = refl

told_over : (w : Code) (c : List ℕ) → Told w c → Told (other w) (map (recoded w) c)
told_over w [] h = tt
told_over w (b ∷ c) h =
    (λ e. h.0 (ap (recoded w) (sym (undone-by w b h.0) ∙ e) ∙ no-byte-none w), told_over w c h.1)

undone-all : (w : Code) (c : List ℕ) → Told w c → map (recoded (other w)) (map (recoded w) c) ≡ c
undone-all w [] h = refl
undone-all w (b ∷ c) h = ap₂ (λ (x : ℕ) (y : List ℕ). x ∷ y) (undone-by w b h.0) (undone-all w c h.1)

mark-plain : (w : Code) → Plain (charset_of w)
mark-plain Page437 = plain-digits (digits 1 2) (digits-all 1 2)
mark-plain Page1252 = plain-digits (digits 1 3) (digits-all 1 3)

-- ---- lines there and back

-- a set that names a code page, into the other
back_is : (w : Code) (hs ks : List Field) → AllHold (charset_of w) hs → names_code w hs ≡ true → AllTold (other w) hs → map (charset_field (other w)) (map (recode_field (other w)) hs) ≡ ks
    → Becomes (other w) hs ks
unfolding recode_lines
back_is w hs ks h s t e =
    let has : has_charset hs ≡ true = says-has w hs s in
    let gain : gains (other w) hs ≡ false = named-gains-none (other w) hs has in
    let out : in_code (other w) hs ≡ false = not-in-code (other w) (charset_of w) hs (marks-differ w).0 h has in
    let eight : seven_bit hs ≡ false = not-seven-bits (charset_of w) hs (mark-eight w) h in
    record { without-fault = no-faults (other w) hs gain (λ b. t); without-gain = gain; lines-so = rw (out, eight, has) e }

-- the same of lines that are known to be hs
becomes-from : (v : Code) (gs hs ks : List Field) → gs ≡ hs → Becomes v hs ks → Becomes v gs ks
becomes-from v gs hs ks e b = subst (λ (l : List Field). Becomes v l ks) (sym e) b

module _ (w : Code) where
  -- a line that is not 9206
  bare-line : (f : Field) → (f.label ≡ 9206 → ⊥) → Told w f.content → charset_field (other w) (recode_field (other w) (recode_field w f)) ≡ f
  bare-line f n t = mark-other (other w) (recode_field (other w) (recode_field w f)) n ∙ ap (field f.label) (undone-all w f.content t)

  -- a line that named the other code page if it is 9206
  back-line : (f : Field) → (f.label ≡ 9206 → f.content ≡ charset_of (other w)) → Told w f.content
      → charset_field (other w) (recode_field (other w) (charset_field w (recode_field w f))) ≡ f
  back-line f h t = go (eqb f.label 9206) refl
    where
      go : (t : Bool) → eqb f.label 9206 ≡ t → charset_field (other w) (recode_field (other w) (cond t (field 9206 (charset_of w)) (recode_field w f))) ≡ f
      go true p = let l = eqb-true f.label 9206 p in λ i. record { label = sym l i; content = sym (h l) i }
      go false p = bare-line f (eqb-false f.label 9206 p) t

  told_line : (f : Field) → Told w f.content → Told (other w) (charset_field w (recode_field w f)).content
  told_line f t =
      pick w (λ (x : Field). Told (other w) x.content) (recode_field w f) (λ e. plain-told (other w) (charset_of w) (mark-plain w)) (λ n. told_over w f.content t)

  back-lines : (fs : List Field) → AllHold (charset_of (other w)) fs → AllTold w fs
      → map (charset_field (other w)) (map (recode_field (other w)) (map (charset_field w) (map (recode_field w) fs))) ≡ fs
  back-lines [] h t = refl
  back-lines (f ∷ fs) h t = ap₂ (λ (x : Field) (y : List Field). x ∷ y) (back-line f h.0 t.0) (back-lines fs h.1 t.1)

  told-lines : (fs : List Field) → AllTold w fs → AllTold (other w) (map (charset_field w) (map (recode_field w) fs))
  told-lines [] t = tt
  told-lines (f ∷ fs) t = (told_line f t.0, told-lines fs t.1)

  named-lines : (fs : List Field) → in_code w fs ≡ false → seven_bit fs ≡ false → has_charset fs ≡ true → recode_lines w fs ≡ map (charset_field w) (map (recode_field w) fs)
  unfolding recode_lines
  named-lines fs p q r = rw (p, q, r)

  -- a set that named the other code page is what it was
  pub there_and_back : (fs : List Field) → Standing fs → names_code (other w) fs ≡ true → recode_faults w fs ≡ [] → Becomes (other w) (recode_lines w fs) fs
  there_and_back fs st s e =
      let hold : AllHold (charset_of (other w)) fs = says-hold (other w) fs (one-charset fs (ruled fs st.right).0) s in
      let has : has_charset fs ≡ true = says-has (other w) fs s in
      let out : in_code w fs ≡ false = not-in-code w (charset_of (other w)) fs (marks-differ w).1 hold has in
      let eight : seven_bit fs ≡ false = not-seven-bits (charset_of (other w)) fs (mark-eight (other w)) hold in
      let told : AllTold w fs = told_of w fs e out eight in
      let gs : List Field = map (recode_field w) fs in
      becomes-from (other w) (recode_lines w fs) (map (charset_field w) gs) fs (named-lines fs out eight has)
      (back_is w (map (charset_field w) gs) fs (marked-hold w gs) (says-marked w gs (charset-kept w fs ∙ has)) (told-lines fs told) (back-lines fs hold told))

-- ---- a set that said seven bits

-- it has no byte over 7Fh
abbrev AllPlain : List Field → Type 0
AllPlain fs = Every (λ f. Plain f.content) fs

all_plain : (k : ℕ) (fs : List Field) → high_from k fs ≡ [] → AllPlain fs
unfolding high_from
all_plain k [] e = tt
all_plain k (f ∷ fs) e =
    let a = append-none (high_bytes k 0 f.content) _ e in
    (highs-back k 0 f.content a.0, all_plain (k + 1) fs a.1)

module _ (w : Code) where
  plain-line : (f : Field) → Plain f.content → charset_field (other w) (recode_field (other w) (charset_field w f)) ≡ charset_field (other w) f
  plain-line f h = go (eqb f.label 9206) refl
    where
      go : (t : Bool) → eqb f.label 9206 ≡ t
          → charset_field (other w) (recode_field (other w) (cond t (field 9206 (charset_of w)) f)) ≡ cond t (field 9206 (charset_of (other w))) f
      go true p = refl
      go false p = mark-other (other w) (recode_field (other w) f) (eqb-false f.label 9206 p) ∙ ap (field f.label) (plain-stays (other w) f.content h)

  plain_lines : (fs : List Field) → AllPlain fs → map (charset_field (other w)) (map (recode_field (other w)) (map (charset_field w) fs)) ≡ map (charset_field (other w)) fs
  plain_lines [] h = refl
  plain_lines (f ∷ fs) h = ap₂ (λ (x : Field) (y : List Field). x ∷ y) (plain-line f h.0) (plain_lines fs h.1)

  plain-lines-told : (fs : List Field) → AllPlain fs → AllTold (other w) (map (charset_field w) fs)
  plain-lines-told [] h = tt
  plain-lines-told (f ∷ fs) h = (
    pick w (λ (x : Field). Told (other w) x.content) f (λ e. plain-told (other w) (charset_of w) (mark-plain w)) (λ n. plain-told (other w) f.content h.0),
    plain-lines-told fs h.1,
  )

  -- "Sets with 9206 = 1 only change that content": without a fault, and without a gained line
  pub from-seven : (fs : List Field) → Standing fs → seven_bit fs ≡ true → Becomes w fs (map (charset_field w) fs)
  unfolding recode_lines all_recoded
  from-seven fs st s =
      let has : has_charset fs ≡ true = seven-has fs s in
      let hold : AllHold (digits 1 1) fs = seven-hold fs (one-charset fs (ruled fs st.right).0) s in
      let out : in_code w fs ≡ false = not-in-code w (digits 1 1) fs (seven-no-mark w) hold has in
      let all : all_recoded w fs ≡ false = rw (out, s) in
      let gain : gains w fs ≡ false = named-gains-none w fs has in
      record { without-fault = no-faults w fs gain (λ b. absurd (true≢false (sym b ∙ all))); without-gain = gain; lines-so = rw (out, s) }

  -- it is then in the other code page, as if it had been recoded there at once
  pub seven-and-back : (fs : List Field) → Standing fs → seven_bit fs ≡ true → Becomes (other w) (recode_lines w fs) (map (charset_field (other w)) fs)
  seven-and-back fs st s =
      let plain : AllPlain fs = all_plain 0 fs (high-back fs (ruled fs st.right).0.none-high s) in
      becomes-from (other w) (recode_lines w fs) (map (charset_field w) fs) (map (charset_field (other w)) fs) (from-seven fs st s).lines-so
      (back_is w (map (charset_field w) fs) (map (charset_field (other w)) fs) (marked-hold w fs) (says-marked w fs (seven-has fs s)) (plain-lines-told fs plain) (plain_lines fs plain))

-- ---- a set without 9206

size-recoded : (w : Code) (fs : List Field) → size (map (recode_field w) fs) ≡ size fs
size-recoded w [] = refl
size-recoded w (f ∷ fs) = omega (arith, length-kept w f.content, size-recoded w fs)

pub sum_told : (w : Code) (n : ℕ) → Told w (sum_field n).content
sum_told w n = plain-told w (digits sum_digits n) (plain-digits (digits sum_digits n) (digits-all sum_digits n))

sum-back-line : (w : Code) (n m : ℕ) → n ≡ m → charset_field w (recode_field w (sum_field n)) ≡ sum_field m
sum-back-line w n m e = ap (field 8100) (digits-stay w (digits sum_digits n) (digits-all sum_digits n)) ∙ ap sum_field e

module _ (w : Code) where
  pub gained-hold : (gs : List Field) → NoCharset gs → AllHold (charset_of w) (resum (with_charset w gs))
  gained-hold [] h = tt
  gained-hold (f ∷ []) h = (λ l. absurd (h.0 l), (λ l. absurd (omega arith), tt))
  gained-hold (f ∷ g ∷ gs) h = (λ l. absurd (h.0 l), (λ l. absurd (omega arith), (λ l. refl, none-hold (charset_of w) gs h.1.1)))

  over-lines : (fs : List Field) → AllTold w fs → AllTold (other w) (map (recode_field w) fs)
  over-lines [] t = tt
  over-lines (f ∷ fs) t = (told_over w f.content t.0, over-lines fs t.1)

  gained-told : (gs : List Field) → AllTold (other w) gs → AllTold (other w) (resum (with_charset w gs))
  gained-told [] t = tt
  gained-told (f ∷ []) t = (t.0, (sum_told (other w) _, tt))
  gained-told (f ∷ g ∷ gs) t = (t.0, (sum_told (other w) _, (plain-told (other w) (charset_of w) (mark-plain w), t.1.1)))

  bare-lines : (fs : List Field) → NoCharset fs → AllTold w fs → map (charset_field (other w)) (map (recode_field (other w)) (map (recode_field w) fs)) ≡ fs
  bare-lines [] h t = refl
  bare-lines (f ∷ fs) h t = ap₂ (λ (x : Field) (y : List Field). x ∷ y) (bare-line w f h.0 t.0) (bare-lines fs h.1 t.1)

  gained-back : (fs : List Field) → 2 ≤ length fs → NoCharset fs → AllTold w fs
      → map (charset_field (other w)) (map (recode_field (other w)) (resum (with_charset w (map (recode_field w) fs)))) ≡ resum (with_charset (other w) fs)
  gained-back [] l h t = refl
  gained-back (f ∷ []) l h t = absurd (omega arith)
  gained-back (f ∷ g ∷ fs) l h t =
      let before : ℕ = line_size (recode_field w f) + (sum_line + size (field 9206 (charset_of w) ∷ map (recode_field w) fs)) in
      let then : ℕ = line_size f + (sum_line + size (field 9206 (charset_of (other w)) ∷ fs)) in
      let sums : before ≡ then = omega (arith, length-kept w f.content, one-byte w, one-byte (other w), size-recoded w fs) in
      ap₂ (λ (x : Field) (y : List Field). x ∷ y) (bare-line w f h.0 t.0)
      (ap₂ (λ (x : Field) (y : List Field). x ∷ field 9206 (charset_of (other w)) ∷ y) (sum-back-line (other w) before then sums) (bare-lines fs h.1.1 t.1.1))

-- such a set is not in code page 1252
without-1252 : (fs : List Field) → has_charset fs ≡ false → in_code Page1252 fs ≡ false
unfolding in_code
without-1252 fs q = go (names_code Page1252 fs) refl
  where
    go : (t : Bool) → names_code Page1252 fs ≡ t → names_code Page1252 fs ≡ false
    go true p = absurd (true≢false (sym (says-has Page1252 fs p) ∙ q))
    go false p = p

without-seven : (fs : List Field) → has_charset fs ≡ false → seven_bit fs ≡ false
without-seven fs q = go (seven_bit fs) refl
  where
    go : (t : Bool) → seven_bit fs ≡ t → seven_bit fs ≡ false
    go true p = absurd (true≢false (sym (seven-has fs p) ∙ q))
    go false p = p

gained-lines : (fs : List Field) → has_charset fs ≡ false → recode_lines Page1252 fs ≡ resum (with_charset Page1252 (map (recode_field Page1252) fs))
unfolding recode_lines
gained-lines fs q = rw (without-1252 fs q, without-seven fs q, q)

-- it "counts as code page 437 and gains that line"; coming back it keeps the line
pub line-and-back : (fs : List Field) → Standing fs → has_charset fs ≡ false → recode_faults Page1252 fs ≡ []
    → Becomes Page437 (recode_lines Page1252 fs) (resum (with_charset Page437 fs))
line-and-back fs st q e =
    let w : Code = Page1252 in
    let gs : List Field = map (recode_field w) fs in
    let told : AllTold w fs = told_of w fs e (without-1252 fs q) (without-seven fs q) in
    let long : 2 ≤ length fs = two fs (upright fs st) in
    becomes-from Page437 (recode_lines w fs) (resum (with_charset w gs)) (resum (with_charset Page437 fs)) (gained-lines fs q)
    (back_is w (resum (with_charset w gs)) (resum (with_charset Page437 fs)) (gained-hold w gs (no-charset gs (charset-kept w fs ∙ q)))
    (says-gained w gs (rw (length-map fs (recode_field w)) long)) (gained-told w gs (over-lines w fs told)) (gained-back w fs long (no-charset fs q) told))

-- the line: `0109206`, `3`, 0Dh 0Ah
abbrev pub gained_bytes : ℕ
gained_bytes = 10

pub line-size : (fs : List Field) → Standing fs → has_charset fs ≡ false → size (recode_lines Page1252 fs) ≡ size fs + gained_bytes
line-size fs st q = ap size (gained-lines fs q) ∙ (go fs (two fs (upright fs st)) ∙ ap (λ (gs : List Field). size gs + gained_bytes) (sym (sum_back fs st.right)))
  where
    go : (l : List Field) → 2 ≤ length l → size (resum (with_charset Page1252 (map (recode_field Page1252) l))) ≡ size (resum l) + gained_bytes
    go [] h = absurd (omega arith)
    go (f ∷ []) h = absurd (omega arith)
    go (f ∷ g ∷ l) h = omega (arith, length-kept Page1252 f.content, size-recoded Page1252 l)
