-- 27: the first fault of the lines names the first byte of the set that is no character of the wanted code page.
use mathlib.Core.Path.{◌≡◌, refl, sym, ap, ap₂, ◌∙◌, subst}
use mathlib.Core.Bool.{Bool, true, false, not}
use mathlib.Core.List.{List, [], ◌∷◌, ◌++◌, cons≢nil}
use mathlib.Core.Logic.{◌⊎◌, inl, inr}
use Prim.Native.Nat.{ℕ, zero, suc, ◌+◌, ◌≤◌, ◌<◌}
use native.Mathlib.Omega.{arith}
use lib.Dec.{eqb}
use lib.ListN.{length, get_or}
use borrow.Author.Tests.{eqb-true, eqb-false}
use Rattle.meaning.specs.Field.{Field, no_field, content_at_line}
use Rattle.meaning.specs.Refusals.{Fault, at_byte, ask, no_such_character}
use Rattle.meaning.specs.Lines.{line_size, offset}
use Rattle.keeps.proofs.TableFacts.{le-cases, lt-or-le}
use Rattle.breaches.proofs.FirstLine.{same_head, head-append}
use Rattle.meaning_recode.specs.declared.Code.{Code}
use Rattle.meaning_recode.specs.Codes.{no_byte, recoded}
use Rattle.meaning_recode.specs.Recoding.{no_character_bytes, no_character_from}
use Rattle.theory_recode.specs.RecodeRules.{NoCharacter}
use Rattle.theory_recode.specs.RecodeBreaches.{place_of, FirstWithout}
use Rattle.theory_recode.proofs.ContentExact.{HasByte, AllHave, no-character, some-character, all_known}

-- ---- of a content

-- x names byte `which` of the content c, the first byte of which is byte i of line k
record UnknownIn (w : Code) (k i : ℕ) (c : List ℕ) (x : Fault) : Type 0 where
  pub which : ℕ
  pub there : which < length c
  pub none : recoded w (get_or c which 0) ≡ no_byte
  pub earlier : (j : ℕ) → j < which → HasByte w (get_or c j 0)
  pub is : x ≡ at_byte no_such_character k (i + which)

unknown-in : (w : Code) (k i : ℕ) (c : List ℕ) (x : Fault) (xs : List Fault) → no_character_bytes w k i c ≡ x ∷ xs → UnknownIn w k i c x
unknown-in w k i [] x xs e = absurd (cons≢nil (sym e))
unknown-in w k i (b ∷ c) x xs e = go (unknown-in w k (suc i) c x xs) (eqb (recoded w b) no_byte) refl e
  where
    go : (no_character_bytes w k (suc i) c ≡ x ∷ xs → UnknownIn w k (suc i) c x) → (t : Bool) → eqb (recoded w b) no_byte ≡ t
        → ask (not t) (at_byte no_such_character k i) ++ no_character_bytes w k (suc i) c ≡ x ∷ xs → UnknownIn w k i (b ∷ c) x
    go ih true p q = record {
      which = 0;
      there = omega arith;
      none = eqb-true _ _ p;
      earlier = λ j l. absurd (omega arith);
      is = sym (same_head q) ∙ ap (λ (m : ℕ). at_byte no_such_character k m) (omega arith);
    }
    go ih false p q =
        let r = ih q in
        record {
          which = suc r.which;
          there = omega (arith, r.there);
          none = r.none;
          earlier = before r;
          is = r.is ∙ ap (λ (m : ℕ). at_byte no_such_character k m) (omega arith);
        }
      where
        before : (r : UnknownIn w k (suc i) c x) (j : ℕ) → j < suc r.which → HasByte w (get_or (b ∷ c) j 0)
        before r zero l = eqb-false _ _ p
        before r (suc j) l = r.earlier j (omega arith)

-- ---- of the lines fs, which have n lines before them

pub record FirstUnknown (w : Code) (n : ℕ) (fs : List Field) (x : Fault) : Type 0 where
  pub line : ℕ
  pub which : ℕ
  pub inside : line < length fs
  pub there : which < length (content_at_line fs line)
  pub none : recoded w (get_or (content_at_line fs line) which 0) ≡ no_byte
  pub earlier-lines : (j : ℕ) → j < line → AllHave w (content_at_line fs j)
  pub earlier : (i : ℕ) → i < which → HasByte w (get_or (content_at_line fs line) i 0)
  pub is : x ≡ at_byte no_such_character (n + line) which

first-unknown : (w : Code) (n : ℕ) (fs : List Field) (x : Fault) (xs : List Fault) → no_character_from w n fs ≡ x ∷ xs → FirstUnknown w n fs x
unfolding no_character_from
first-unknown w n [] x xs e = absurd (cons≢nil (sym e))
first-unknown w n (f ∷ fs) x xs e = go (first-unknown w (n + 1) fs x xs) (head-append (no_character_bytes w n 0 f.content) _ x xs e)
  where
    go : (no_character_from w (n + 1) fs ≡ x ∷ xs → FirstUnknown w (n + 1) fs x)
        → ((ys : List Fault) × (no_character_bytes w n 0 f.content ≡ x ∷ ys)) ⊎ ((no_character_bytes w n 0 f.content ≡ []) × (no_character_from w (n + 1) fs ≡ x ∷ xs))
        → FirstUnknown w n (f ∷ fs) x
    go ih (inl p) =
        let r = unknown-in w n 0 f.content x p.0 p.1 in
        record {
          line = 0;
          which = r.which;
          inside = omega arith;
          there = r.there;
          none = r.none;
          earlier-lines = λ j l. absurd (omega arith);
          earlier = r.earlier;
          is = r.is ∙ ap₂ (λ (a b : ℕ). at_byte no_such_character a b) (omega arith) (omega arith);
        }
    go ih (inr p) =
        let r = ih p.1 in
        record {
          line = suc r.line;
          which = r.which;
          inside = omega (arith, r.inside);
          there = r.there;
          none = r.none;
          earlier-lines = before r;
          earlier = r.earlier;
          is = r.is ∙ ap (λ (m : ℕ). at_byte no_such_character m r.which) (omega arith);
        }
      where
        before : (r : FirstUnknown w (n + 1) fs x) (j : ℕ) → j < suc r.line → AllHave w (content_at_line (f ∷ fs) j)
        before r zero l = all_known w n 0 f.content p.0
        before r (suc j) l = r.earlier-lines j (omega arith)

-- ---- by places

-- a later line starts after the end of this one
line_before : (fs : List Field) (k m : ℕ) → k < m → m ≤ length fs → offset fs k + line_size (get_or fs k no_field) ≤ offset fs m
line_before [] k m l h = absurd (omega arith)
line_before (f ∷ fs) k zero l h = absurd (omega arith)
line_before (f ∷ fs) zero (suc m) l h = omega arith
line_before (f ∷ fs) (suc k) (suc m) l h = omega (arith, line_before fs k m (omega arith) (omega arith))

-- what stands before byte i of line k is on an earlier line, or earlier on this one
stands-before : (fs : List Field) (k i m j : ℕ) → k < length fs → i < length (content_at_line fs k) → m < length fs → place_of fs m j < place_of fs k i → (m < k) ⊎ ((m ≡ k) × (j < i))
stands-before fs k i m j a b c l = go (lt-or-le m k)
  where
    same : (k < m) ⊎ (k ≡ m) → (m < k) ⊎ ((m ≡ k) × (j < i))
    same (inl p) = absurd (omega (arith, line_before fs k m p (omega arith)))
    same (inr p) = inr (sym p, omega (arith, ap (offset fs) p))

    go : (m < k) ⊎ (k ≤ m) → (m < k) ⊎ ((m ≡ k) × (j < i))
    go (inl p) = inl p
    go (inr p) = same (le-cases k m p)

-- the first fault names the first such byte
pub first-without : (w : Code) (fs : List Field) (x : Fault) (xs : List Fault) → no_character_from w 0 fs ≡ x ∷ xs
    → (k i : ℕ) × FirstWithout w fs k i × (x ≡ at_byte no_such_character k i)
first-without w fs x xs e =
    let r = first-unknown w 0 fs x xs e in (
      r.line,
      r.which,
      record {
        a-line = r.inside;
        a_byte = r.there;
        no-character = no-character w (get_or (content_at_line fs r.line) r.which 0) r.none;
        none_before = λ m j a b l. before r m j b (stands-before fs r.line r.which m j r.inside r.there a l);
      },
      r.is ∙ ap (λ (k : ℕ). at_byte no_such_character k r.which) (omega arith),
    )
  where
    before : (r : FirstUnknown w 0 fs x) (m j : ℕ) → j < length (content_at_line fs m) → (m < r.line) ⊎ ((m ≡ r.line) × (j < r.which))
        → NoCharacter w (get_or (content_at_line fs m) j 0) → ⊥
    before r m j b (inl p) = some-character w (get_or (content_at_line fs m) j 0) (r.earlier-lines m p j b)
    before r m j b (inr p) =
        some-character w (get_or (content_at_line fs m) j 0) (subst (λ (k : ℕ). HasByte w (get_or (content_at_line fs k) j 0)) (sym p.0) (r.earlier j p.1))

-- which has one place
pub one-first : (w : Code) (fs : List Field) (k i m j : ℕ) → FirstWithout w fs k i → FirstWithout w fs m j → place_of fs k i ≡ place_of fs m j
one-first w fs k i m j a b = go (lt-or-le (place_of fs k i) (place_of fs m j))
  where
    last : (place_of fs m j < place_of fs k i) ⊎ (place_of fs m j ≡ place_of fs k i) → place_of fs k i ≡ place_of fs m j
    last (inl p) = absurd (a.none_before m j b.a-line b.a_byte p b.no-character)
    last (inr p) = sym p

    go : (place_of fs k i < place_of fs m j) ⊎ (place_of fs m j ≤ place_of fs k i) → place_of fs k i ≡ place_of fs m j
    go (inl p) = absurd (b.none_before k i a.a-line a.a_byte p a.no-character)
    go (inr p) = last (le-cases (place_of fs m j) (place_of fs k i) p)
