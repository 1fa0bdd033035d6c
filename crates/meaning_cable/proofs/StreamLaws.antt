-- The stream of a set: with the ends of the lines put back it is the set again (`stream-back`), and its bytes are data bytes.
use mathlib.Core.Path.{◌≡◌, refl, ap, ◌∙◌}
use mathlib.Core.Bool.{Bool, true, false, cond}
use mathlib.Core.List.{List, [], ◌∷◌, ◌++◌, append_assoc}
use Prim.Native.Nat.{ℕ, zero, suc, ◌+◌, ◌≤◌}
use native.Mathlib.Omega.{arith}
use lib.ListN.{length, take, drop, length-append}
use lib.Dec.{leb, eqb}
use borrow.Author.Tests.{le-leb, leb-true, ne_eqb}
use Rattle.meaning.specs.Digits.{digits, digit, all_digits}
use Rattle.meaning.specs.Field.{Field}
use Rattle.meaning.specs.Lines.{line_size, size, render, cr, lf, least_byte}
use Rattle.meaning.proofs.Bools.{and_left, and_right, and_both, or_right, Every}
use Rattle.meaning.proofs.DigitLaws.{digits-all}
use Rattle.meaning.proofs.FaultLaws.{High}
use Rattle.meaning.proofs.LineLaws.{Sound}
use Rattle.meaning_cable.specs.Stream.{separator, bare_then, stream, restored, data_byte, all_data}

-- ---- putting the ends back goes byte by byte

pub restored-append : (x y : List ℕ) → restored (x ++ y) ≡ restored x ++ restored y
unfolding restored
restored-append [] y = refl
restored-append (b ∷ x) y = go (eqb b separator) (restored-append x y)
  where
    go : (t : Bool) → restored (x ++ y) ≡ restored x ++ restored y
        → cond t (cr ∷ lf ∷ restored (x ++ y)) (b ∷ restored (x ++ y)) ≡ cond t (cr ∷ lf ∷ restored x) (b ∷ restored x) ++ restored y
    go true e = ap (λ (t : List ℕ). cr ∷ lf ∷ t) e
    go false e = ap (λ (t : List ℕ). b ∷ t) e

-- bytes that are no 1Ch stand for themselves
pub restored-high : (x t : List ℕ) → High x → restored (x ++ t) ≡ x ++ restored t
unfolding restored
restored-high [] t h = refl
restored-high (b ∷ x) t h = rw (ne_eqb b separator (λ e. omega (arith, h.0))) (ap (λ (u : List ℕ). b ∷ u) (restored-high x t h.1))

-- digits are such bytes
pub digits-high : (x : List ℕ) → all_digits x ≡ true → High x
digits-high [] e = tt
digits-high (b ∷ x) e =
    let d : digit b ≡ true = and_left (digit b) (all_digits x) e in
    let l : 48 ≤ b = leb-true 48 b (and_left (leb 48 b) (leb b 57) d) in
    (omega arith, digits-high x (and_right (digit b) (all_digits x) e))

restored-bare : (f : Field) (t : List ℕ) → Sound f → restored (bare_then f t) ≡ bare_then f (restored t)
restored-bare f t h =
    restored-high (digits 3 (line_size f)) _ (digits-high (digits 3 (line_size f)) (digits-all 3 (line_size f)))
    ∙ ap (λ (u : List ℕ). digits 3 (line_size f) ++ u)
    (restored-high (digits 4 f.label) _ (digits-high (digits 4 f.label) (digits-all 4 f.label))
    ∙ ap (λ (u : List ℕ). digits 4 f.label ++ u) (restored-high f.content t h.no-low))

pub bare-end : (f : Field) (t u : List ℕ) → bare_then f t ++ u ≡ bare_then f (t ++ u)
bare-end f t u = simp append_assoc

-- "Lines are joined by one 1Ch in place of their 0Dh 0Ah": with the ends put back, and one at the end, the stream is the set
pub stream-back : (f : Field) (fs : List Field) → Every Sound (f ∷ fs) → restored (stream (f ∷ fs)) ++ (cr ∷ lf ∷ []) ≡ render (f ∷ fs) []
unfolding stream restored
stream-back f [] h = ap (λ (u : List ℕ). u ++ (cr ∷ lf ∷ [])) (restored-bare f [] h.0) ∙ bare-end f [] (cr ∷ lf ∷ [])
stream-back f (g ∷ fs) h =
    ap (λ (u : List ℕ). u ++ (cr ∷ lf ∷ [])) (restored-bare f (separator ∷ stream (g ∷ fs)) h.0)
    ∙ (bare-end f (cr ∷ lf ∷ restored (stream (g ∷ fs))) (cr ∷ lf ∷ [])
    ∙ ap (λ (u : List ℕ). bare_then f (cr ∷ lf ∷ u)) (stream-back g fs h.1))

-- ---- the bytes of a stream are data bytes

high-data : (x t : List ℕ) → High x → all_data t ≡ true → all_data (x ++ t) ≡ true
high-data [] t h e = e
high-data (b ∷ x) t h e = and_both (or_right (eqb b separator) (le-leb least_byte b h.0)) (high-data x t h.1 e)

bare-data : (f : Field) (t : List ℕ) → Sound f → all_data t ≡ true → all_data (bare_then f t) ≡ true
bare-data f t h e =
    high-data (digits 3 (line_size f)) (digits 4 f.label ++ (f.content ++ t)) (digits-high (digits 3 (line_size f)) (digits-all 3 (line_size f)))
    (high-data (digits 4 f.label) (f.content ++ t) (digits-high (digits 4 f.label) (digits-all 4 f.label)) (high-data f.content t h.no-low e))

pub stream-data : (fs : List Field) → Every Sound fs → all_data (stream fs) ≡ true
unfolding stream
stream-data [] h = refl
stream-data (f ∷ []) h = bare-data f [] h.0 refl
stream-data (f ∷ g ∷ fs) h = bare-data f (separator ∷ stream (g ∷ fs)) h.0 (stream-data (g ∷ fs) h.1)

-- of a part too
pub drop-data : (n : ℕ) (x : List ℕ) → all_data x ≡ true → all_data (drop n x) ≡ true
drop-data zero x e = e
drop-data (suc n) [] e = e
drop-data (suc n) (b ∷ x) e = drop-data n x (and_right (data_byte b) (all_data x) e)

pub take-data : (n : ℕ) (x : List ℕ) → all_data x ≡ true → all_data (take n x) ≡ true
take-data zero x e = refl
take-data (suc n) [] e = e
take-data (suc n) (b ∷ x) e = and_both (and_left (data_byte b) (all_data x) e) (take-data n x (and_right (data_byte b) (all_data x) e))

-- ---- how long a stream is

bare-length : (f : Field) (t : List ℕ) → length (bare_then f t) + 2 ≡ line_size f + length t
bare-length f t = simp length-append (omega arith)

-- a set of m lines and n bytes has a stream of n - m - 1 bytes (E3a)
pub stream-length : (f : Field) (fs : List Field) → length (stream (f ∷ fs)) + (length (f ∷ fs) + 1) ≡ size (f ∷ fs)
unfolding stream
stream-length f [] = omega (arith, bare-length f [])
stream-length f (g ∷ fs) = omega (arith, bare-length f (separator ∷ stream (g ∷ fs)), stream-length g fs)

pub stream-some : (f : Field) (fs : List Field) → 1 ≤ length (stream (f ∷ fs))
unfolding stream
stream-some f [] = omega (arith, bare-length f [])
stream-some f (g ∷ fs) = omega (arith, bare-length f (separator ∷ stream (g ∷ fs)))
