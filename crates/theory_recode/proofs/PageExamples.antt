-- The two tables of recoding follow from the mapping files as printed: an entry is the byte of the same character, by its Unicode number.
-- Assumes nothing.
use mathlib.Core.Path.{◌≡◌, refl, sym, ap, ◌∙◌, subst}
use mathlib.Core.Bool.{Bool, true, false, cond, ◌&&◌, ◌||◌}
use mathlib.Core.List.{List, [], ◌∷◌, map}
use mathlib.Core.Logic.{◌↔◌}
use Prim.Native.Nat.{ℕ, zero, suc, ◌+◌, ◌<◌}
use native.Mathlib.Omega.{arith}
use lib.ListN.{get_or}
use lib.Dec.{eqb}
use borrow.Author.Tests.{eqb-true, eqb-false, ne_eqb}
use Rattle.meaning.proofs.Bools.{and_left, and_right}
use Rattle.meaning_recode.specs.declared.Code.{Code}
use Rattle.meaning_recode.specs.declared.Code.TheVariants.{Page437, Page1252}
use Rattle.meaning_recode.specs.Codes.{no_byte, to1252, to437, table_into, recoded}
use Rattle.theory_recode.specs.Pages.{unnamed, column437, column1252, column}
use Rattle.theory_recode.specs.RecodeRules.{SameCharacter}

-- the byte of a character in a column, the first entry of which is that of byte k; no byte if it is not there
abbrev byte_from : ℕ → List ℕ → ℕ → ℕ
byte_from k [] u = no_byte
byte_from k (x ∷ xs) u = let rest = byte_from (suc k) xs u in cond (eqb x u) k rest

abbrev pub byte_of : List ℕ → ℕ → ℕ
byte_of xs u = cond (eqb u unnamed) no_byte (byte_from 0 xs u)

-- ---- computed, over all entries

-- "taken from the published Unicode mapping files for both code pages"
pub tables-follow : (to1252 ≡ map (byte_of column1252) column437) × (to437 ≡ map (byte_of column437) column1252)
unfolding to1252 to437 column437 column1252
tables-follow = (refl, refl)

-- no two bytes of a code page are one character: each entry is unnamed, or the first of its character
distinct : List ℕ → ℕ → List ℕ → Bool
distinct all k [] = true
distinct all k (x ∷ xs) = (eqb x unnamed || eqb (byte_from 0 all x) k) && distinct all (suc k) xs

both-distinct : (distinct column437 0 column437 ≡ true) × (distinct column1252 0 column1252 ≡ true)
unfolding column437 column1252 distinct
both-distinct = (refl, refl)

-- ---- what they say of one byte

becomes : (col from : List ℕ) (b : ℕ) → get_or (map (byte_of col) from) b no_byte ≡ byte_of col (get_or from b unnamed)
becomes col [] b = refl
becomes col (x ∷ xs) zero = refl
becomes col (x ∷ xs) (suc b) = becomes col xs b

-- what is found in a column stands there
found : (k : ℕ) (xs : List ℕ) (u c : ℕ) → (c ≡ no_byte → ⊥) → byte_from k xs u ≡ c → (i : ℕ) × (c ≡ k + i) × (get_or xs i unnamed ≡ u)
found k [] u c n e = absurd (n (sym e))
found k (x ∷ xs) u c n e = go (eqb x u) refl e (found (suc k) xs u c n)
  where
    go : (t : Bool) → eqb x u ≡ t → cond t k (byte_from (suc k) xs u) ≡ c → (byte_from (suc k) xs u ≡ c → (i : ℕ) × (c ≡ suc k + i) × (get_or xs i unnamed ≡ u))
        → (i : ℕ) × (c ≡ k + i) × (get_or (x ∷ xs) i unnamed ≡ u)
    go true p q rest = (0, omega arith, eqb-true x u p)
    go false p q rest = let r = rest q in let at = r.1 in (suc r.0, omega arith, r.2)

-- what stands in a column is found where it stands
distinct-at : (all : List ℕ) (k : ℕ) (xs : List ℕ) (i : ℕ) → distinct all k xs ≡ true → (get_or xs i unnamed ≡ unnamed → ⊥) → byte_from 0 all (get_or xs i unnamed) ≡ k + i
unfolding distinct
distinct-at all k [] i h n = absurd (n refl)
distinct-at all k (x ∷ xs) zero h n = go (eqb x unnamed) refl (and_left (eqb x unnamed || eqb (byte_from 0 all x) k) _ h)
  where
    go : (t : Bool) → eqb x unnamed ≡ t → t || eqb (byte_from 0 all x) k ≡ true → byte_from 0 all x ≡ k + 0
    go true p q = absurd (n (eqb-true x unnamed p))
    go false p q = eqb-true (byte_from 0 all x) k q ∙ omega arith
distinct-at all k (x ∷ xs) (suc i) h n = distinct-at all (suc k) xs i (and_right (eqb x unnamed || eqb (byte_from 0 all x) k) _ h) n ∙ omega arith

named-byte : (col : List ℕ) (u : ℕ) → (u ≡ unnamed → ⊥) → byte_of col u ≡ byte_from 0 col u
named-byte col u n = rw (ne_eqb u unnamed n) refl

to-character : (col from : List ℕ) (b c : ℕ) → (c ≡ no_byte → ⊥) → get_or (map (byte_of col) from) b no_byte ≡ c
    → (get_or from b unnamed ≡ unnamed → ⊥) × (get_or col c unnamed ≡ get_or from b unnamed)
to-character col from b c n e = go (eqb (get_or from b unnamed) unnamed) refl (sym (becomes col from b) ∙ e)
  where
    go : (t : Bool) → eqb (get_or from b unnamed) unnamed ≡ t → cond t no_byte (byte_from 0 col (get_or from b unnamed)) ≡ c
        → (get_or from b unnamed ≡ unnamed → ⊥) × (get_or col c unnamed ≡ get_or from b unnamed)
    go true p q = absurd (n (sym q))
    go false p q = let r = found 0 col (get_or from b unnamed) c n q in let at = r.1 in (eqb-false _ _ p, subst (λ (i : ℕ). get_or col i unnamed ≡ get_or from b unnamed) (omega arith) r.2)

to-byte : (col from : List ℕ) (b c : ℕ) → distinct col 0 col ≡ true → (get_or from b unnamed ≡ unnamed → ⊥) → get_or col c unnamed ≡ get_or from b unnamed
    → get_or (map (byte_of col) from) b no_byte ≡ c
to-byte col from b c h n e =
    becomes col from b ∙ (named-byte col (get_or from b unnamed) n
    ∙ (ap (byte_from 0 col) (sym e) ∙ (distinct-at col 0 col c h (λ q. n (sym e ∙ q)) ∙ omega arith)))

-- a byte becomes the byte of the same character, and no other one
pub same-exactly : (w : Code) (b c : ℕ) → c < 256 → (recoded w b ≡ c) ↔ SameCharacter w b c
unfolding table_into column
same-exactly Page437 b c l = (there, λ s. ap (λ (t : List ℕ). get_or t b no_byte) tables-follow.1 ∙ to-byte column437 column1252 b c both-distinct.0 s.named s.same)
  where
    there : recoded Page437 b ≡ c → SameCharacter Page437 b c
    there e = let r = to-character column437 column1252 b c (λ q. omega arith) (sym (ap (λ (t : List ℕ). get_or t b no_byte) tables-follow.1) ∙ e) in
        record { a_byte = l; named = r.0; same = r.1 }
same-exactly Page1252 b c l = (there, λ s. ap (λ (t : List ℕ). get_or t b no_byte) tables-follow.0 ∙ to-byte column1252 column437 b c both-distinct.1 s.named s.same)
  where
    there : recoded Page1252 b ≡ c → SameCharacter Page1252 b c
    there e = let r = to-character column1252 column437 b c (λ q. omega arith) (sym (ap (λ (t : List ℕ). get_or t b no_byte) tables-follow.0) ∙ e) in
        record { a_byte = l; named = r.0; same = r.1 }
