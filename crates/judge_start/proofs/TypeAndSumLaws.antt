-- The type that a content names, the sum that line 2 writes, and 17: what each `return` has to show.
use mathlib.Core.Path.{◌≡◌, refl, sym, ap, ◌∙◌}
use mathlib.Core.Bool.{Bool, true, false, cond, ◌&&◌}
use mathlib.Core.List.{List}
use Prim.Native.Nat.{ℕ, ◌+◌, ◌-◌, ◌≤◌}
use native.Mathlib.Omega.{arith}
use lib.Dec.{leb, eqb}
use lib.ListN.{length, take, drop, length-drop}
use lib.Seq.{take_all, length-take-le}
use borrow.Author.Tests.{eq-eqb, ne_eqb, eqb-true, eqb-false, le-leb, leb-true}
use Rattle.meaning.specs.Limits.{type_of}
use Rattle.meaning.specs.Digits.{number, all_digits}
use Rattle.meaning.specs.Refusals.{refusal, bad_sum}
use Rattle.meaning.specs.Lines.{line_lead}
use Rattle.meaning.specs.Kinds.{is_num, of_kind}
use Rattle.meaning.specs.Tables.{row_label}
use Rattle.meaning.specs.FieldTable.{field_table, field_row_in, field_row, has_length, fits_row, fits_label}
use Rattle.meaning.specs.Rules.{type_named, type_digits}
use Rattle.meaning.specs.Lists.{sum_digits}
use Rattle.meaning.specs.Answers.{no_refusal}
use Rattle.line_read.specs.Number.{number_at, Number}
use Rattle.line_read.specs.Line.{line_content, sum_line}
use Rattle.line_read.proofs.LineMeaning.{as_number, number_is}
use Rattle.judge_start.specs.Sum.{sum_written, is_sum, sum_walk}
use Rattle.meaning.specs.Results.{Known}
use Rattle.std.specs.Prelude.{None, Some}

-- ---- 9: the type that a content names

-- the type by what the four bytes write
known_by : Number → Known
known_by (Some n) = type_of n
known_by None = None

pub type-other : (c : List ℕ) → (length c ≡ type_digits → ⊥) → None ≡ type_named c
unfolding type_named
type-other c h = rw (ne_eqb (length c) type_digits h)

type-read : (c : List ℕ) → length c ≡ type_digits → known_by (number_at c 0 type_digits) ≡ type_named c
unfolding type_named known_by
type-read c h =
    let t : take type_digits c ≡ c = take_all type_digits c (omega arith) in
    ap known_by (number_is c 0 type_digits (omega arith) (omega arith))
    ∙ (ap (λ (b : Bool). known_by (as_number (b && all_digits (take type_digits c)) (number (take type_digits c)))) (le-leb type_digits (length c) (omega arith))
    ∙ (ap (λ (x : List ℕ). known_by (as_number (all_digits x) (number x))) t
    ∙ (go (all_digits c) ∙ sym (ap (λ (b : Bool). cond (b && all_digits c) (type_of (number c)) None) (eq-eqb (length c) type_digits h)))))
  where
    go : (b : Bool) → known_by (as_number b (number c)) ≡ cond b (type_of (number c)) None
    go true = refl
    go false = refl

pub type-known : (c : List ℕ) → length c ≡ type_digits → (n : ℕ) → number_at c 0 type_digits ≡ Some n → type_of n ≡ type_named c
unfolding known_by
type-known c h n q = sym (ap known_by q) ∙ type-read c h

pub type-none : (c : List ℕ) → length c ≡ type_digits → number_at c 0 type_digits ≡ None → None ≡ type_named c
unfolding known_by
type-none c h q = sym (ap known_by q) ∙ type-read c h

-- ---- the sum of line 2

module _ (s : List ℕ) (at n : ℕ) where
  pub sum-short : (n ≡ sum_line → ⊥) → None ≡ sum_written s at n
  unfolding sum_written
  sum-short h = rw (ne_eqb n sum_line h)

  module _ (h : n ≡ sum_line) where
    pub sum-read : number_at s (at + line_lead) sum_digits ≡ sum_written s at n
    unfolding sum_written
    sum-read = rw (eq-eqb n sum_line h)

  -- a sum that is written is a number of five digits, in a line of 14 bytes
  pub sum_number : (k : ℕ) → sum_written s at n ≡ Some k → (n ≡ sum_line) × (number_at s (at + line_lead) sum_digits ≡ Some k)
  sum_number k q = go (eqb n sum_line) refl
    where
      go : (b : Bool) → eqb n sum_line ≡ b → (n ≡ sum_line) × (number_at s (at + line_lead) sum_digits ≡ Some k)
      go true e = (eqb-true n sum_line e, sum-read (eqb-true n sum_line e) ∙ q)
      go false e =
          let z : None ≡ Some k = sum-short (eqb-false n sum_line e) ∙ q in
          let y : ◌≡◌ {A = ℕ} 0 1 = cc in
          absurd (omega arith)

  -- a content fits 8100 exactly if it is a sum
  pub sum-fitting : at + n ≤ length s → fits_label 8100 (line_content s at n) ≡ is_sum (sum_written s at n)
  unfolding fits_label fits_row field_row field_row_in field_table row_label has_length of_kind is_num
  sum-fitting h = go (eqb n sum_line) refl
    where
      c : List ℕ
      c = line_content s at n

      -- of another length
      other : (m : ℕ) → (m ≡ 5 → ⊥) → leb 5 m && leb m 5 ≡ false
      other m z = by (leb 5 m) refl (leb m 5) refl
        where
          by : (a : Bool) → leb 5 m ≡ a → (b : Bool) → leb m 5 ≡ b → a && b ≡ false
          by false e b f = refl
          by true e false f = refl
          by true e true f = absurd (z (omega (arith, leb-true 5 m e, leb-true m 5 f)))

      digits : (b : Bool) → all_digits (take 5 (drop (at + 7) s)) ≡ b → b ≡ is_sum (as_number b (number (take 5 (drop (at + 7) s))))
      digits true e = refl
      digits false e = refl

      go : (b : Bool) → eqb n sum_line ≡ b → (leb 5 (length c) && leb (length c) 5) && all_digits c ≡ is_sum (sum_written s at n)
      go true e =
          let f : n ≡ sum_line = eqb-true n sum_line e in
          let five : n - 9 ≡ 5 = omega arith in
          let long : 5 ≤ length (drop (at + 7) s) = omega (arith, length-drop (at + 7) s) in
          let is : c ≡ take 5 (drop (at + 7) s) = ap (λ (m : ℕ). take m (drop (at + 7) s)) five in
          let size : length c ≡ 5 = ap length is ∙ length-take-le 5 (drop (at + 7) s) long in
          let w : sum_written s at n ≡ as_number (all_digits (take 5 (drop (at + 7) s))) (number (take 5 (drop (at + 7) s))) =
          sym (sum-read f) ∙ (number_is s (at + 7) 5 (omega arith) (omega arith)
          ∙ ap (λ (b : Bool). as_number (b && all_digits (take 5 (drop (at + 7) s))) (number (take 5 (drop (at + 7) s)))) (le-leb 5 (length (drop (at + 7) s)) long)) in
          rw (size, is, w) (digits (all_digits (take 5 (drop (at + 7) s))) refl)
      go false e =
          let size : length c ≡ n - 9 = length-take-le (n - 9) (drop (at + 7) s) (omega (arith, length-drop (at + 7) s)) in
          rw (other (length c) (λ z. eqb-false n sum_line e (omega (arith, size))), ← (sum-short (eqb-false n sum_line e)))

-- ---- 17

module _ (s : List ℕ) (at total : ℕ) where
  pub sum-right : (k : ℕ) → number_at s (at + line_lead) sum_digits ≡ Some k → k ≡ total → no_refusal ≡ sum_walk s at total
  unfolding sum_walk
  sum-right k q e = rw (q, eq-eqb k total e)

  pub sum-wrong : (k : ℕ) → number_at s (at + line_lead) sum_digits ≡ Some k → (k ≡ total → ⊥) → refusal bad_sum at 0 ≡ sum_walk s at total
  unfolding sum_walk
  sum-wrong k q e = rw (q, ne_eqb k total e)
