-- What the group of a header lacks, by the header itself, and that without one nothing is lacking: for the proof of `open_lack`.
use mathlib.Core.Path.{◌≡◌, refl, sym, ap, ◌∙◌}
use mathlib.Core.Bool.{Bool, true, false, true≢false}
use mathlib.Core.List.{List}
use Prim.Native.Nat.{ℕ, zero, suc, ◌+◌, ◌%◌, ◌≤◌, ◌<◌}
use native.Mathlib.Omega.{arith}
use lib.Dec.{leb}
use borrow.Author.Tests.{ne_eqb, leb-true, lt-leb}
use Rattle.meaning.specs.declared.SetType.{SetType}
use Rattle.meaning.specs.declared.SetType.TheVariants.{T6300, T6301, T6302, T6310, T6311}
use Rattle.meaning.specs.Tables.{row_label, is_pair_label}
use Rattle.meaning.specs.Answers.{no_refusal}
use Rattle.meaning.proofs.Bools.{and_right}
use Rattle.judge_missing.specs.Lacks.{seen, lack_name, lack_under, group_lack, open_lack}

-- ---- what the group of a header lacks, by the header itself

module _ (h : ℕ) where
  -- a name, and so the label one higher, has four digits
  pub name_below : is_pair_label h ≡ true → h < 10000
  name_below p = let z : h ≤ 6399 = leb-true h 6399 (and_right (leb 6330 h) (leb h 6399) p) in omega arith

  module _ (has : ℕ → Bool) (place : ℕ) where
    pub under-name : is_pair_label h ≡ true → h % 2 ≡ 0 → lack_name has h place ≡ lack_under (row_label h) has h place
    unfolding lack_under row_label
    under-name p e = rw (p, e)

    -- nothing stands under the odd label after a name, nor under any other label
    pub under-odd : is_pair_label h ≡ true → (h % 2 ≡ 0 → ⊥) → no_refusal ≡ lack_under (row_label h) has h place
    unfolding lack_under row_label
    under-odd p n = rw (p, ne_eqb (6330 + h % 2) 8410 (λ q. omega arith), ne_eqb (6330 + h % 2) 6302 (λ q. omega arith), ne_eqb (6330 + h % 2) 6330 (λ q. n (omega arith)))

    pub under-other : (h ≡ 8410 → ⊥) → (h ≡ 6302 → ⊥) → is_pair_label h ≡ false → no_refusal ≡ lack_under (row_label h) has h place
    unfolding lack_under row_label
    under-other a b p = rw (p, ne_eqb h 8410 a, ne_eqb h 6302 b, ne_eqb h 6330 (λ q. true≢false (sym (ap is_pair_label q) ∙ p)))

    -- nor under a label lower than 6302
    pub under_low : h < 6302 → no_refusal ≡ lack_under (row_label h) has h place
    under_low z = under-other (λ q. omega arith) (λ q. omega arith) (rw (lt-leb 6330 h (omega arith)))

-- without a header nothing is lacking
pub open-lack : (settype : SetType) (header place : ℕ) (members : List Bool) → group_lack settype (seen members) header place ≡ open_lack settype header place members
unfolding open_lack group_lack
open-lack T6300 zero place members = refl
open-lack T6301 zero place members = refl
open-lack T6302 zero place members = refl
open-lack T6310 zero place members = sym (under_low 0 (seen members) place (omega arith))
open-lack T6311 zero place members = refl
open-lack settype (suc h) place members = rw (ne_eqb (suc h) 0 (λ q. omega arith))
