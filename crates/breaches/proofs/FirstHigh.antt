-- 24: the first byte over 7Fh of a content, and of the lines of a set: the first line that has one, and its first one.
use mathlib.Core.Path.{◌≡◌, refl, sym, ap, ap₂, ◌∙◌}
use mathlib.Core.Bool.{Bool, true, false, cond}
use mathlib.Core.List.{List, [], ◌∷◌, ◌++◌, cons≢nil}
use mathlib.Core.Logic.{◌⊎◌, inl, inr}
use Prim.Native.Nat.{ℕ, zero, suc, ◌+◌, ◌≤◌, ◌<◌}
use native.Mathlib.Omega.{arith}
use lib.Dec.{leb}
use lib.ListN.{length, take, get_or}
use borrow.Author.Tests.{leb-true, leb-false, le-leb, lt-leb}
use Rattle.meaning.specs.Field.{Field, content_at_line}
use Rattle.meaning.specs.Refusals.{Fault, at_byte, ask, high_byte}
use Rattle.meaning.specs.Lines.{most_seven_bits, high_bytes}
use Rattle.meaning.specs.Rules.{seven_bit, high_from, high_faults}
use Rattle.meaning.proofs.FaultLaws.{highs-back}
use Rattle.keeps.specs.Keeps.{HasSevenBits, NoHighByte}
use Rattle.keeps.proofs.SevenExact.{seven-has, no-high-of}
use Rattle.breaches.proofs.FirstLine.{same_head, head-append}

-- ---- of a content

-- x names byte `which` of the content c, the first byte of which is byte i of line k
pub record HighIn (k i : ℕ) (c : List ℕ) (x : Fault) : Type 0 where
  pub which : ℕ
  pub there : which < length c
  pub high : most_seven_bits < get_or c which 0
  pub earlier : (j : ℕ) → j < which → get_or c j 0 ≤ most_seven_bits
  pub is : x ≡ at_byte high_byte k (i + which)

pub high-in : (k i : ℕ) (c : List ℕ) (x : Fault) (xs : List Fault) → high_bytes k i c ≡ x ∷ xs → HighIn k i c x
high-in k i [] x xs e = absurd (cons≢nil (sym e))
high-in k i (b ∷ c) x xs e = go (high-in k (suc i) c x xs) (leb b most_seven_bits) refl e
  where
    go : (high_bytes k (suc i) c ≡ x ∷ xs → HighIn k (suc i) c x) → (t : Bool) → leb b most_seven_bits ≡ t → ask t (at_byte high_byte k i) ++ high_bytes k (suc i) c ≡ x ∷ xs
        → HighIn k i (b ∷ c) x
    go ih false p q = record {
      which = 0;
      there = omega arith;
      high = leb-false _ _ p;
      earlier = λ j l. absurd (omega arith);
      is = sym (same_head q) ∙ ap (λ (m : ℕ). at_byte high_byte k m) (omega arith);
    }
    go ih true p q =
        let r = ih q in
        record { which = suc r.which; there = omega (arith, r.there); high = r.high; earlier = before r; is = r.is ∙ ap (λ (m : ℕ). at_byte high_byte k m) (omega arith) }
      where
        before : (r : HighIn k (suc i) c x) (j : ℕ) → j < suc r.which → get_or (b ∷ c) j 0 ≤ most_seven_bits
        before r zero l = leb-true _ _ p
        before r (suc j) l = r.earlier j (omega arith)

-- and the first one is found
pub high-found : (k i : ℕ) (c : List ℕ) (j : ℕ) → j < length c → most_seven_bits < get_or c j 0 → ((h : ℕ) → h < j → get_or c h 0 ≤ most_seven_bits)
    → (xs : List Fault) × (high_bytes k i c ≡ at_byte high_byte k (i + j) ∷ xs)
high-found k i [] j l e h = absurd (omega arith)
high-found k i (b ∷ c) zero l e h =
    (high_bytes k (suc i) c, rw (lt-leb b most_seven_bits e) (ap (λ (m : ℕ). at_byte high_byte k m ∷ high_bytes k (suc i) c) (omega arith)))
high-found k i (b ∷ c) (suc j) l e h =
    let r = high-found k (suc i) c j (omega arith) e (λ m p. h (suc m) (omega arith)) in
    (r.0, rw (le-leb b most_seven_bits (h 0 (omega arith))) (r.1 ∙ ap (λ (m : ℕ). at_byte high_byte k m ∷ r.0) (omega arith)))

-- ---- of the lines fs, which have n lines before them

pub record FirstHigh (n : ℕ) (fs : List Field) (x : Fault) : Type 0 where
  pub line : ℕ
  pub which : ℕ
  pub inside : line < length fs
  pub there : which < length (content_at_line fs line)
  pub high : most_seven_bits < get_or (content_at_line fs line) which 0
  pub earlier-lines : (j : ℕ) → j < line → NoHighByte (content_at_line fs j)
  pub earlier : (i : ℕ) → i < which → get_or (content_at_line fs line) i 0 ≤ most_seven_bits
  pub is : x ≡ at_byte high_byte (n + line) which

first-high : (n : ℕ) (fs : List Field) (x : Fault) (xs : List Fault) → high_from n fs ≡ x ∷ xs → FirstHigh n fs x
unfolding high_from
first-high n [] x xs e = absurd (cons≢nil (sym e))
first-high n (f ∷ fs) x xs e = go (first-high (n + 1) fs x xs) (head-append (high_bytes n 0 f.content) _ x xs e)
  where
    go : (high_from (n + 1) fs ≡ x ∷ xs → FirstHigh (n + 1) fs x)
        → ((ys : List Fault) × (high_bytes n 0 f.content ≡ x ∷ ys)) ⊎ ((high_bytes n 0 f.content ≡ []) × (high_from (n + 1) fs ≡ x ∷ xs)) → FirstHigh n (f ∷ fs) x
    go ih (inl p) =
        let r = high-in n 0 f.content x p.0 p.1 in
        record {
          line = 0;
          which = r.which;
          inside = omega arith;
          there = r.there;
          high = r.high;
          earlier-lines = λ j l. absurd (omega arith);
          earlier = r.earlier;
          is = r.is ∙ ap₂ (λ (a b : ℕ). at_byte high_byte a b) (omega arith) (omega arith);
        }
    go ih (inr p) =
        let r = ih p.1 in
        record {
          line = suc r.line;
          which = r.which;
          inside = omega (arith, r.inside);
          there = r.there;
          high = r.high;
          earlier-lines = before r;
          earlier = r.earlier;
          is = r.is ∙ ap (λ (m : ℕ). at_byte high_byte m r.which) (omega arith);
        }
      where
        before : (r : FirstHigh (n + 1) fs x) (j : ℕ) → j < suc r.line → NoHighByte (content_at_line (f ∷ fs) j)
        before r zero l = no-high-of f.content (highs-back n 0 f.content p.0)
        before r (suc j) l = r.earlier-lines j (omega arith)

-- the fault of a set: it has seven bits, and x names the first byte over 7Fh of its lines
pub set-high : (fs : List Field) (x : Fault) (xs : List Fault) → high_faults fs ≡ x ∷ xs → HasSevenBits fs × FirstHigh 0 fs x
unfolding high_faults
set-high fs x xs e = go (seven_bit fs) refl (high_from 0 fs) refl e
  where
    go : (b : Bool) → seven_bit fs ≡ b → (ys : List Fault) → high_from 0 fs ≡ ys → cond b (take 1 ys) [] ≡ x ∷ xs → HasSevenBits fs × FirstHigh 0 fs x
    go false p ys q h = absurd (cons≢nil (sym h))
    go true p [] q h = absurd (cons≢nil (sym h))
    go true p (y ∷ ys) q h = (seven-has fs p, first-high 0 fs x ys (q ∙ ap (λ (z : Fault). z ∷ ys) (same_head h)))
