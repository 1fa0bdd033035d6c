-- The cuts of an accepted set, by the length of its data alone, and what stands between two of them.
use mathlib.Core.Path.{◌≡◌, refl, sym, ap, ap₂, ◌∙◌}
use mathlib.Core.Bool.{Bool, true, false, cond}
use mathlib.Core.List.{List, [], ◌∷◌, ◌++◌, cons≢nil}
use Prim.Native.Nat.{ℕ, zero, suc, ◌+◌, ◌-◌, ◌*◌, ◌/◌, ◌≤◌, ◌<◌, min}
use native.Mathlib.Omega.{arith}
use lib.ListN.{length, take, drop, length-drop}
use lib.Seq.{take_all}
use lib.Dec.{leb, eqb}
use borrow.Author.Tests.{ne_eqb, leb-true, leb-false}
use Rattle.meaning.specs.Field.{Field}
use Rattle.meaning.specs.Lines.{line_size}
use Rattle.meaning.specs.Rules.{profile, start_faults}
use Rattle.meaning.proofs.FaultLaws.{High}
use Rattle.meaning.proofs.TypeLaws.{known-type, type-digits}
use Rattle.meaning.proofs.RuleLaws.{ruled, begins-of}
use Rattle.meaning.proofs.SetLaws.{Standing}
use Rattle.meaning_cable.specs.Stream.{separator, stream}
use Rattle.meaning_cable.specs.Blocks.{through_first, block_count, cut_at, block_data}
use Rattle.meaning_cable.proofs.BlockLaws.{Cuts, one, many, cuts, through-most, cut_on, cut_most}
use Rattle.cable_set.specs.BlockCounts.{count_for}
use Rattle.cable_data.proofs.CarriedLaws.{bare, bare_high, bare-length, stream-more}
use Rattle.cable_block.specs.Cutting.{first_data, cut_for, end_for}

-- ---- the first 1Ch

through-high : (x t : List ℕ) → High x → through_first (x ++ (separator ∷ t)) ≡ length x + 1
unfolding through_first
through-high [] t h = refl
through-high (b ∷ x) t h = rw (ne_eqb b separator (λ e. omega (arith, h.0))) (omega (arith, through-high x t h.1))

-- line 1 of an accepted set has 13 bytes: its content is four digits
first-size : (f : Field) (fs : List Field) → Standing (f ∷ fs) → line_size f ≡ 13
unfolding profile
first-size f fs h =
    let k = known-type (profile (f ∷ fs)).set_type (begins-of (f ∷ fs) (ruled (f ∷ fs) h.right).0.begins).type-known in
    omega (arith, ap length (type-digits f.content k.0 k.1))

-- so its first 1Ch is the twelfth byte
pub through-first : (fs : List Field) → Standing fs → through_first (stream fs) ≡ first_data
unfolding start_faults
through-first [] h = absurd (cons≢nil (ruled [] h.right).0.begins)
through-first (f ∷ []) h = let z : ◌≡◌ {A = ℕ} 0 8100 = (begins-of (f ∷ []) (ruled (f ∷ []) h.right).0.begins).second-label in absurd (omega arith)
through-first (f ∷ g ∷ fs) h =
    ap through_first (stream-more f g fs)
    ∙ (through-high (bare f) (stream (g ∷ fs)) (bare_high f h.sound.0) ∙ omega (arith, bare-length f, first-size f (g ∷ fs) h))

-- ---- the cuts

pub cut-is : (fs : List Field) (i : ℕ) → Standing fs → cut_at (stream fs) i ≡ cut_for (length (stream fs)) i
unfolding cut_at cut_for
cut-is fs i h =
    ap (λ (n : ℕ). cond (leb (length (stream fs)) 128) (cond (eqb i 0) 0 (cond (eqb i 1) n (length (stream fs)))) (128 * i)) (through-first fs h)

pub count-is : (x : List ℕ) → block_count x ≡ count_for (length x)
unfolding block_count
count-is x = refl

-- of a block that the data have, no cut is after their end
cut-within : (x : List ℕ) (i : ℕ) → i < block_count x → cut_at x i ≤ length x
cut-within x i h = go (cuts x) i h
  where
    go : Cuts x → (j : ℕ) → j < block_count x → cut_at x j ≤ length x
    go (one l n a b c) zero k = omega arith
    go (one l n a b c) (suc zero) k = omega (arith, b, through-most x)
    go (one l n a b c) (suc (suc j)) k = absurd (omega arith)
    go (many l n a) j k = omega (arith, a j, n)

-- taking more than there is takes all
take-most : (x : List ℕ) (lo hi : ℕ) → take (hi - lo) (drop lo x) ≡ take (min hi (length x) - lo) (drop lo x)
take-most x lo hi = go (leb hi (length x)) refl
  where
    go : (t : Bool) → leb hi (length x) ≡ t → take (hi - lo) (drop lo x) ≡ take (min hi (length x) - lo) (drop lo x)
    go true e =
        let l = leb-true hi (length x) e in
        let q : hi - lo ≡ min hi (length x) - lo = omega arith in
        ap (λ (k : ℕ). take k (drop lo x)) q
    go false e =
        let l = leb-false hi (length x) e in
        take_all (hi - lo) (drop lo x) (omega (arith, length-drop lo x)) ∙ sym (take_all (min hi (length x) - lo) (drop lo x) (omega (arith, length-drop lo x)))

-- What is known of the data of block i of an accepted set: where they start and how many they are.
pub record Between (fs : List Field) (i start n : ℕ) : Type 0 where
  pub data_is : block_data (stream fs) i ≡ take n (drop start (stream fs))
  pub within : start + n ≤ length (stream fs)
  pub short : n ≤ 128

pub between : (fs : List Field) (i : ℕ) → Standing fs → i < count_for (length (stream fs))
    → (cut_for (length (stream fs)) i ≤ end_for (length (stream fs)) i)
    × Between fs i (cut_for (length (stream fs)) i) (end_for (length (stream fs)) i - cut_for (length (stream fs)) i)
unfolding end_for
between fs i h l =
    let x : List ℕ = stream fs in
    let a : cut_at x i ≡ cut_for (length x) i = cut-is fs i h in
    let b : cut_at x (i + 1) ≡ cut_for (length x) (i + 1) = cut-is fs (i + 1) h in
    let on = cut_on x i in
    let w : cut_at x i ≤ length x = cut-within x i (omega (arith, count-is x)) in
    let end : min (cut_at x (i + 1)) (length x) ≡ end_for (length x) i = omega arith in
    let most = cut_most x i in (
      omega arith,
      record {
        data_is = take-most x (cut_at x i) (cut_at x (i + 1)) ∙ ap₂ (λ (lo hi : ℕ). take (hi - lo) (drop lo x)) a end;
        within = omega arith;
        short = omega arith;
      },
    )

-- there are not more blocks than bytes, but two
pub count-few : (n : ℕ) → count_for n ≤ n + 2
count-few n = go (leb n 128)
  where
    go : (t : Bool) → cond t 2 ((n + 127) / 128) ≤ n + 2
    go true = omega arith
    go false = omega arith
