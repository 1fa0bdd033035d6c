-- A content with each byte recoded: its length, its kind, and that it has no byte under 20h stay, since every kind but alnum asks for bytes under 80h alone.
use mathlib.Core.Path.{◌≡◌, refl, sym, ap, ap₂, ◌∙◌}
use mathlib.Core.Bool.{Bool, true, false, cond, not, ◌&&◌}
use mathlib.Core.List.{List, [], ◌∷◌, ◌++◌, map}
use Prim.Native.Nat.{ℕ, zero, suc, ◌+◌, ◌-◌, ◌*◌, ◌≤◌, ◌<◌}
use native.Mathlib.Omega.{arith}
use lib.Dec.{leb, eqb}
use lib.ListN.{length, drop, get_or, length-map, get_or-map}
use borrow.Author.Tests.{leb-true, leb-false, lt-leb, eqb-false, ne_eqb}
use Rattle.meaning.specs.declared.Kind.{Kind}
use Rattle.meaning.specs.declared.Kind.TheVariants.{Alnum, Num, Float, Rule020, Rule008, Rule090, Rule112, Rule116, Charset, Version}
use Rattle.meaning.specs.Digits.{digits, digit, digit_zero, digit_nine, all_digits}
use Rattle.meaning.specs.Field.{Field, elem}
use Rattle.meaning.specs.Refusals.{at_byte, no_such_character}
use Rattle.meaning.specs.Kinds.{point, minus, is_alnum, is_num, decimals, whole, unsigned, is_float, no_number, two_at, is_rule020, is_rule008, is_rule090, first_is_in}
use Rattle.meaning.specs.Kinds.{is_rule112, is_rule116, is_charset, is_version, same_bytes, is0210, of_kind}
use Rattle.meaning.specs.FieldTable.{has_length, fits_row, fits_label}
use Rattle.meaning.specs.Rules.{Profile, fits, current}
use Rattle.meaning.proofs.Bools.{Every, and_no, not-true}
use Rattle.meaning.proofs.DigitLaws.{plain-digits}
use Rattle.meaning.proofs.FaultLaws.{ask-none, High, Plain}
use Rattle.meaning_recode.specs.declared.Code.{Code}
use Rattle.meaning_recode.specs.Codes.{no_byte, recoded}
use Rattle.meaning_recode.specs.Recoding.{no_character_bytes, recode_field}
use Rattle.meaning_recode.proofs.CodeLaws.{low-stays, high-stays}

-- ---- every byte has a character in the wanted code page

abbrev pub Told : Code → List ℕ → Type 0
Told w c = Every (λ b. recoded w b ≡ no_byte → ⊥) c

pub told_back : (w : Code) (k i : ℕ) (c : List ℕ) → no_character_bytes w k i c ≡ [] → Told w c
told_back w k i [] e = tt
told_back w k i (b ∷ bs) e =
    let a = ask-none (not (eqb (recoded w b) no_byte)) (at_byte no_such_character k i) (no_character_bytes w k (suc i) bs) e in
    (eqb-false (recoded w b) no_byte (not-true _ a.0), told_back w k (suc i) bs a.1)

pub told_none : (w : Code) (k i : ℕ) (c : List ℕ) → Told w c → no_character_bytes w k i c ≡ []
told_none w k i [] h = refl
told_none w k i (b ∷ bs) h = rw (ne_eqb (recoded w b) no_byte h.0) (told_none w k (suc i) bs h.1)

module _ (w : Code) where
  -- the bytes of the content in the wanted code page
  abbrev into : List ℕ → List ℕ
  into c = map (recoded w) c

  -- ---- one byte

  -- under 80h it stays; from 80h on it stays there
  abbrev Sided : ℕ → ℕ → Type 0
  Sided b x = (leb 128 b ≡ false → x ≡ b) × (leb 128 b ≡ true → (128 ≤ b) × (128 ≤ x))

  sided : (b : ℕ) → Sided b (recoded w b)
  sided b = (λ e. low-stays w b (leb-false 128 b e), λ e. (leb-true 128 b e, (high-stays w b (leb-true 128 b e)).0))

  pub same_low : (b x : ℕ) → x < 128 → eqb (recoded w b) x ≡ eqb b x
  same_low b x l = go (leb 128 b) refl
    where
      go : (t : Bool) → leb 128 b ≡ t → eqb (recoded w b) x ≡ eqb b x
      go true e = let h = (sided b).1 e in ne_eqb (recoded w b) x (λ q. omega arith) ∙ sym (ne_eqb b x (λ q. omega arith))
      go false e = rw ((sided b).0 e)

  no_digit : (b : ℕ) → 128 ≤ b → digit b ≡ false
  no_digit b h = and_no (leb digit_zero b) (lt-leb b digit_nine (omega arith))

  pub same-digit : (b : ℕ) → digit (recoded w b) ≡ digit b
  same-digit b = go (leb 128 b) refl
    where
      go : (t : Bool) → leb 128 b ≡ t → digit (recoded w b) ≡ digit b
      go true e = let h = (sided b).1 e in no_digit (recoded w b) h.1 ∙ sym (no_digit b h.0)
      go false e = rw ((sided b).0 e)

  -- ---- some bytes of a content

  byte_at : (c : List ℕ) (i : ℕ) → get_or (into c) i 0 ≡ recoded w (get_or c i 0)
  byte_at c i = ap (λ (d : ℕ). get_or (into c) i d) (sym (low-stays w 0 (omega arith))) ∙ get_or-map (recoded w) c i 0

  drop-into : (n : ℕ) (c : List ℕ) → drop n (into c) ≡ into (drop n c)
  drop-into zero c = refl
  drop-into (suc n) [] = refl
  drop-into (suc n) (b ∷ c) = drop-into n c

  same_at : (c : List ℕ) (i x : ℕ) → x < 128 → eqb (get_or (into c) i 0) x ≡ eqb (get_or c i 0) x
  same_at c i x l = ap (λ (b : ℕ). eqb b x) (byte_at c i) ∙ same_low (get_or c i 0) x l

  pub all-digits-kept : (c : List ℕ) → all_digits (into c) ≡ all_digits c
  all-digits-kept [] = refl
  all-digits-kept (b ∷ c) = ap₂ (λ (x y : Bool). x && y) (same-digit b) (all-digits-kept c)

  -- the number of two digits
  pair-kept : (a b : ℕ) → cond (digit (recoded w a) && digit (recoded w b)) ((recoded w a - digit_zero) * 10 + (recoded w b - digit_zero)) no_number
      ≡ cond (digit a && digit b) ((a - digit_zero) * 10 + (b - digit_zero)) no_number
  pair-kept a b = go (leb 128 a) refl (leb 128 b) refl
    where
      go : (s : Bool) → leb 128 a ≡ s → (t : Bool) → leb 128 b ≡ t
          → cond (digit (recoded w a) && digit (recoded w b)) ((recoded w a - digit_zero) * 10 + (recoded w b - digit_zero)) no_number
          ≡ cond (digit a && digit b) ((a - digit_zero) * 10 + (b - digit_zero)) no_number
      go true p t q = let h = (sided a).1 p in rw (no_digit (recoded w a) h.1, no_digit a h.0) refl
      go false p true q =
          let h = (sided b).1 q in
          rw (no_digit (recoded w b) h.1, no_digit b h.0, and_no (digit (recoded w a)) {b = false} refl, and_no (digit a) {b = false} refl) refl
      go false p false q = rw ((sided a).0 p, (sided b).0 q) refl

  two-kept : (c : List ℕ) (i : ℕ) → two_at (into c) i ≡ two_at c i
  unfolding two_at
  two-kept c i = rw (byte_at c i, byte_at c (i + 1)) (pair-kept (get_or c i 0) (get_or c (i + 1) 0))

  -- ---- the kinds

  decimals-kept : (c : List ℕ) → decimals (into c) ≡ decimals c
  unfolding decimals
  decimals-kept [] = refl
  decimals-kept (b ∷ c) = all-digits-kept (b ∷ c)

  whole-kept : (c : List ℕ) → whole (into c) ≡ whole c
  unfolding whole
  whole-kept [] = refl
  whole-kept (b ∷ c) = rw (same-digit b, whole-kept c, same_low b point (omega arith), decimals-kept c)

  unsigned-kept : (c : List ℕ) → unsigned (into c) ≡ unsigned c
  unfolding unsigned
  unsigned-kept [] = refl
  unsigned-kept (b ∷ c) = rw (same-digit b, whole-kept c)

  float-kept : (c : List ℕ) → is_float (into c) ≡ is_float c
  unfolding is_float
  float-kept [] = refl
  float-kept (b ∷ c) = rw (same_low b minus (omega arith), unsigned-kept c, unsigned-kept (b ∷ c))

  rule020-kept : (c : List ℕ) → is_rule020 (into c) ≡ is_rule020 c
  unfolding is_rule020
  rule020-kept c = rw (two-kept c 0, two-kept c 2, drop-into 4 c, all-digits-kept (drop 4 c))

  pub kind-kept : (k : Kind) (c : List ℕ) → of_kind k (into c) ≡ of_kind k c
  unfolding of_kind is_alnum is_num is_rule008 is_rule090 first_is_in is_rule112 is_rule116 is_charset is_version elem
  kind-kept Alnum c = refl
  kind-kept Num c = all-digits-kept c
  kind-kept Float c = float-kept c
  kind-kept Rule020 c = rule020-kept c
  kind-kept Rule008 c = rw (two-kept c 0, two-kept c 2, rule020-kept c)
  kind-kept Rule090 c = rw (two-kept c 0, two-kept c 2, two-kept c 4)
  kind-kept Rule112 c = rw (same_at c 0 49 (omega arith), same_at c 0 50 (omega arith))
  kind-kept Rule116 c = rw (same_at c 0 49 (omega arith), same_at c 0 51 (omega arith), same_at c 0 53 (omega arith))
  kind-kept Charset c = rw (same_at c 0 49 (omega arith), same_at c 0 50 (omega arith), same_at c 0 51 (omega arith))
  kind-kept Version c = rw (two-kept c 0, same_at c 2 point (omega arith), two-kept c 3)

  -- ---- a line

  pub length-kept : (c : List ℕ) → length (into c) ≡ length c
  length-kept c = length-map c (recoded w)

  pub fits_kept : (p : Profile) (f : Field) → fits p (recode_field w f) ≡ fits p f
  unfolding fits fits_label fits_row has_length
  fits_kept p f = rw (length-kept f.content, kind-kept _ f.content)

  -- whether a content is these bytes, all of them under 80h
  pub same_kept : (c d : List ℕ) → Every (λ x. x < 128) d → same_bytes (into c) d ≡ same_bytes c d
  unfolding same_bytes
  same_kept [] [] h = refl
  same_kept [] (x ∷ d) h = refl
  same_kept (b ∷ c) [] h = refl
  same_kept (b ∷ c) (x ∷ d) h = rw (same_low b x h.0, same_kept c d h.1)

  pub current-kept : (p : Profile) (f : Field) → current p (recode_field w f) ≡ current p f
  unfolding current is0210
  current-kept p f =
      let low : Every (λ x. x < 128) (digits 2 2 ++ (point ∷ digits 2 10)) = (omega arith, (omega arith, (omega arith, (omega arith, (omega arith, tt))))) in
      rw (same_kept f.content (digits 2 2 ++ (point ∷ digits 2 10)) low)

  -- no byte under 20h
  pub high-kept : (c : List ℕ) → High c → High (into c)
  high-kept [] h = tt
  high-kept (b ∷ c) h = (go (leb 128 b) refl, high-kept c h.1)
    where
      go : (t : Bool) → leb 128 b ≡ t → 32 ≤ recoded w b
      go true e = omega (arith, ((sided b).1 e).1)
      go false e = omega (arith, (sided b).0 e, h.0)

  -- bytes under 80h stay, so digits do
  pub plain-stays : (c : List ℕ) → Plain c → into c ≡ c
  plain-stays [] h = refl
  plain-stays (b ∷ c) h = ap₂ (λ (x : ℕ) (y : List ℕ). x ∷ y) (low-stays w b (omega (arith, h.0))) (plain-stays c h.1)

  pub digits-stay : (c : List ℕ) → all_digits c ≡ true → into c ≡ c
  digits-stay c e = plain-stays c (plain-digits c e)

  pub plain-told : (c : List ℕ) → Plain c → Told w c
  plain-told [] h = tt
  plain-told (b ∷ c) h = (λ e. omega (arith, low-stays w b (omega (arith, h.0)), h.0), plain-told c h.1)
