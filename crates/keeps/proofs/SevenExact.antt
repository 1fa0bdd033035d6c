-- 24 finds no fault in the lines of a set exactly when the set keeps its seven bits: it does not hold 9206 with content 1, or no content byte exceeds 7Fh.
use mathlib.Core.Path.{◌≡◌, refl, sym}
use mathlib.Core.Bool.{true, true≢false}
use mathlib.Core.List.{List, [], ◌∷◌}
use mathlib.Core.Logic.{◌⊎◌, inl, inr}
use Prim.Native.Nat.{ℕ, zero, suc, ◌+◌, ◌≤◌, ◌<◌}
use native.Mathlib.Omega.{arith}
use lib.Dec.{eqb}
use lib.ListN.{length}
use borrow.Author.Tests.{eqb-true, eq-eqb}
use Rattle.meaning.specs.Digits.{digits}
use Rattle.meaning.specs.Field.{Field, content_at_line}
use Rattle.meaning.specs.Lines.{most_seven_bits, high_bytes}
use Rattle.meaning.specs.Rules.{says_seven_bit, seven_bit, high_from, high_faults}
use Rattle.meaning.proofs.Bools.{and_left, and_right, or_right, every-at}
use Rattle.meaning.proofs.FaultLaws.{append-none, none_both, Plain, highs-none, highs-back}
use Rattle.meaning.proofs.SameLaws.{same-bytes, bytes_same}
use Rattle.meaning.proofs.RuleLaws.{high-none, high-back}
use Rattle.keeps.specs.Keeps.{HasSevenBits, NoHighByte, SevenBitsKept}
use Rattle.keeps.proofs.TableFacts.{or_cases}

-- ---- "a set holds 9206 with content 1"

pub has-seven : (fs : List Field) → HasSevenBits fs → seven_bit fs ≡ true
unfolding seven_bit says_seven_bit
has-seven [] (j, l, e, c) = absurd (omega arith)
has-seven (f ∷ fs) (zero, l, e, c) = rw (eq-eqb f.label 9206 e, c, bytes_same (digits 1 1))
has-seven (f ∷ fs) (suc j, l, e, c) = or_right (says_seven_bit f) (has-seven fs (j, omega arith, e, c))

pub seven-has : (fs : List Field) → seven_bit fs ≡ true → HasSevenBits fs
unfolding seven_bit says_seven_bit
seven-has [] b = absurd (true≢false (sym b))
seven-has (f ∷ fs) b = go (or_cases (says_seven_bit f) (seven_bit fs) b) (λ p. seven-has fs p)
  where
    says : says_seven_bit f ≡ true → (f.label ≡ 9206) × (f.content ≡ digits 1 1)
    says p = (eqb-true _ _ (and_left (eqb f.label 9206) _ p), same-bytes _ _ (and_right (eqb f.label 9206) _ p))

    go : (says_seven_bit f ≡ true) ⊎ (seven_bit fs ≡ true) → (seven_bit fs ≡ true → HasSevenBits fs) → HasSevenBits (f ∷ fs)
    go (inl p) ih = (0, omega arith, (says p).0, (says p).1)
    go (inr p) ih = let h = ih p in (suc h.0, omega (arith, h.1), h.2, h.3)

-- ---- "no content byte .. may exceed 7Fh"

pub plain_of : (c : List ℕ) → NoHighByte c → Plain c
plain_of [] h = tt
plain_of (b ∷ c) h = (h 0 (omega arith), plain_of c (λ i l. h (suc i) (omega arith)))

pub no-high-of : (c : List ℕ) → Plain c → NoHighByte c
no-high-of c p i l = every-at (λ b. b ≤ most_seven_bits) c i 0 l p

highs-plain : (k : ℕ) (fs : List Field) → high_from k fs ≡ [] → (j : ℕ) → j < length fs → Plain (content_at_line fs j)
unfolding high_from
highs-plain k [] e j l = absurd (omega arith)
highs-plain k (f ∷ fs) e zero l = highs-back k 0 f.content (append-none (high_bytes k 0 f.content) _ e).0
highs-plain k (f ∷ fs) e (suc j) l = highs-plain (k + 1) fs (append-none (high_bytes k 0 f.content) _ e).1 j (omega arith)

plain-highs : (k : ℕ) (fs : List Field) → ((j : ℕ) → j < length fs → Plain (content_at_line fs j)) → high_from k fs ≡ []
unfolding high_from
plain-highs k [] h = refl
plain-highs k (f ∷ fs) h = none_both _ _ (highs-none k 0 f.content (h 0 (omega arith))) (plain-highs (k + 1) fs (λ j l. h (suc j) (omega arith)))

-- ---- both

pub seven-kept : (fs : List Field) → high_faults fs ≡ [] → SevenBitsKept fs
seven-kept fs e h k l = no-high-of (content_at_line fs k) (highs-plain 0 fs (high-back fs e (has-seven fs h)) k l)

pub kept-seven : (fs : List Field) → SevenBitsKept fs → high_faults fs ≡ []
kept-seven fs h = high-none fs (λ b. plain-highs 0 fs (λ k l. plain_of (content_at_line fs k) (h (seven-has fs b) k l)))
