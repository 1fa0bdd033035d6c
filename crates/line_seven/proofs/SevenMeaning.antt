-- What the walks are for lines that keep 11 to 15: whether the set has seven bits, and the first fault of 24.
use mathlib.Core.Path.{◌≡◌, refl, sym, ◌∙◌}
use mathlib.Core.Bool.{Bool, true, false, cond}
use mathlib.Core.List.{List, []}
use mathlib.Core.Logic.{◌⊎◌, inl, inr}
use Prim.Native.Nat.{ℕ, ◌+◌, ◌≤◌}
use native.Mathlib.Omega.{arith}
use lib.ListN.{length}
use borrow.Author.Tests.{le-leb, ne_eqb}
use Rattle.meaning.specs.Limits.{max_lines}
use Rattle.meaning.specs.Field.{Field}
use Rattle.meaning.specs.Refusals.{high_byte}
use Rattle.meaning.specs.Lines.{line_lead, size, offset, render, most_seven_bits, high_bytes}
use Rattle.meaning.specs.Groups.{first}
use Rattle.meaning.specs.Rules.{Profile, rules_from, seven_bit, high_from, high_faults}
use Rattle.meaning.specs.Reading.{in_set}
use Rattle.meaning.specs.Answers.{no_refusal}
use Rattle.meaning.proofs.Bools.{Every}
use Rattle.meaning.proofs.FirstLaws.{first_of}
use Rattle.meaning.proofs.RealLaws.{first-high}
use Rattle.meaning.proofs.LineLaws.{Sound, length-render}
use Rattle.meaning.proofs.SevenLaws.{seven-none, seven-digit}
use Rattle.byte_low.proofs.SeekLineLaws.{seek_set}
use Rattle.byte_high.specs.High.{seven_bits, first_high}
use Rattle.line_find.proofs.FirstPlaceLaws.{FirstLine, NoLine, first_or_none, place_is, place-absent, first_byte}
use Rattle.line_seven.specs.Seven.{says_seven, high_before, high_for, high_in_set}

-- ---- 9206 = 1

-- a set whose lines keep 11 to 15 says seven bits exactly if it has them
pub seven-told : (p : Profile) (fs : List Field) → Every Sound fs → length fs ≤ max_lines → rules_from p first 0 fs ≡ [] → says_seven (render fs []) ≡ seven_bit fs
unfolding says_seven
seven-told p fs h c r = go (first_or_none 9206 fs)
  where
    go : ((k : ℕ) × FirstLine 9206 fs k) ⊎ NoLine 9206 fs → says_seven (render fs []) ≡ seven_bit fs
    go (inl (k, x)) =
        rw (place_is 9206 (omega arith) fs [] k h c x, ne_eqb (offset fs k + line_lead) 0 (λ z. omega arith), first_byte fs k h x.inside) (sym (seven-digit p fs r k x.inside x.named))
    go (inr x) = rw (place-absent 9206 (omega arith) fs h x) (sym (seven-none fs x))

-- ---- 24

-- the bytes of a set: the first of them over 7Fh is the first fault of its contents
high-offset : (fs : List Field) → high_before (size fs) (first_high (render fs []) 0 (size fs)) ≡ first_of (in_set fs) (high_from 0 fs)
unfolding high_from
high-offset = seek_set seven_bits high_byte (λ b h. le-leb b most_seven_bits h) high_bytes high_from (λ k i. refl) (λ k i b bs. refl) (λ k. refl) (λ k f fs. refl)

-- What is found in the bytes of a set whose lines keep 11 to 15 is the first fault of 24.
pub high-in-set-is : (p : Profile) (fs : List Field) → Every Sound fs → length fs ≤ max_lines → rules_from p first 0 fs ≡ [] → high_in_set (render fs []) ≡ first_of (in_set fs) (high_faults fs)
unfolding high_in_set high_for
high-in-set-is p fs h c r =
    let n : length (render fs []) ≡ size fs = length-render fs [] ∙ omega arith in
    rw (seven-told p fs h c r, n) (by_bits (seven_bit fs) ∙ sym (first-high (in_set fs) fs))
  where
    by_bits : (b : Bool) → high_before (size fs) (cond b (first_high (render fs []) 0 (size fs)) (size fs)) ≡ cond b (first_of (in_set fs) (high_from 0 fs)) no_refusal
    by_bits true = high-offset fs
    by_bits false = rw (le-leb (size fs) (size fs) (omega arith))
