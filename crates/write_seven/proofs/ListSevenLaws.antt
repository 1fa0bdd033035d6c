-- What each `return` and each turn of the walks has to show.
use mathlib.Core.Path.{◌≡◌, refl, sym, ◌∙◌}
use mathlib.Core.Bool.{Bool, true, false, ◌&&◌}
use mathlib.Core.List.{List, [], ◌∷◌}
use Prim.Native.Nat.{ℕ, ◌+◌, ◌≤◌, ◌<◌}
use native.Mathlib.Omega.{arith}
use lib.Dec.{eqb}
use lib.ListN.{length, get_or, drop, length-take, length-drop}
use borrow.Author.Tests.{le-leb, lt-leb, eq-eqb, ne_eqb}
use Rattle.meaning.specs.Digits.{digit_zero, digits}
use Rattle.meaning.specs.Refusals.{refusal, high_byte}
use Rattle.meaning.specs.Kinds.{same_bytes}
use Rattle.meaning.specs.Entries.{entry_lead}
use Rattle.meaning.specs.Answers.{no_refusal}
use Rattle.meaning.proofs.Bools.{and_no, byte-then}
use Rattle.byte_high.specs.High.{first_high}
use Rattle.entry_read.specs.Head.{entry_at, list_content, a_head}
use Rattle.entry_read.proofs.HeadWalkLaws.{entries-cut, entries-on}
use Rattle.write_seven.specs.ListSeven.{seven_or_later, list_says_seven, high_or_later, high_in_contents, high_in_list}
use Rattle.std.specs.Prelude.{None}

-- ---- the content of an entry is 1

same-no : (c : List ℕ) → (length c ≡ 1 → ⊥) → same_bytes c (digits 1 1) ≡ false
unfolding same_bytes
same-no [] h = refl
same-no (b ∷ []) h = absurd (h refl)
same-no (b ∷ d ∷ c) h = and_no (eqb b (digit_zero + 1)) refl

same_byte : (b : ℕ) → same_bytes (b ∷ []) (digits 1 1) ≡ eqb b (digit_zero + 1)
unfolding same_bytes
same_byte b = go (eqb b (digit_zero + 1))
  where
    go : (x : Bool) → x && true ≡ x
    go true = refl
    go false = refl

module _ (l : List ℕ) (at n : ℕ) (h : at + (entry_lead + n) ≤ length l) where
  pub other_length : (n ≡ 1 → ⊥) → false ≡ same_bytes (list_content l at n) (digits 1 1)
  other_length q =
      let w : length (list_content l at n) ≡ n = length-take n (drop (at + entry_lead) l) ∙ omega (arith, length-drop (at + entry_lead) l) in
      sym (same-no (list_content l at n) (λ e. q (sym w ∙ e)))

  pub one-byte : n ≡ 1 → eqb (get_or l (at + entry_lead) 0) (digit_zero + 1) ≡ same_bytes (list_content l at n) (digits 1 1)
  one-byte e = rw (e, byte-then l (at + entry_lead) (omega arith)) (sym (same_byte (get_or l (at + entry_lead) 0)))

-- ---- 9206 = 1

module _ (l : List ℕ) (at : ℕ) where
  pub seven-cut : entry_at l at ≡ None → false ≡ list_says_seven l at
  unfolding list_says_seven
  seven-cut e = sym (entries-cut false (seven_or_later l) l at e)

  module _ {label n : ℕ} (e : entry_at l at ≡ a_head label n) where
    pub seven-here : label ≡ 9206 → same_bytes (list_content l at n) (digits 1 1) ≡ list_says_seven l at
    unfolding list_says_seven
    seven-here q = sym (entries-on false (seven_or_later l) l at e ∙ rw (eq-eqb label 9206 q))

    pub seven-later : (label ≡ 9206 → ⊥) → list_says_seven l (at + (entry_lead + n)) ≡ list_says_seven l at
    unfolding list_says_seven
    seven-later q = sym (entries-on false (seven_or_later l) l at e ∙ rw (ne_eqb label 9206 q))

-- ---- 24

module _ (l : List ℕ) (at : ℕ) where
  pub high_cut : entry_at l at ≡ None → no_refusal ≡ high_in_contents l at
  unfolding high_in_contents
  high_cut e = sym (entries-cut no_refusal (high_or_later l) l at e)

  module _ {label n : ℕ} (e : entry_at l at ≡ a_head label n) (high : ℕ) (q : high ≡ first_high l (at + entry_lead) n) where
    pub high-here : high < at + entry_lead + n → refusal high_byte high 0 ≡ high_in_contents l at
    unfolding high_in_contents
    high-here h = sym (entries-on no_refusal (high_or_later l) l at e ∙ rw (← q, lt-leb (at + entry_lead + n) high h))

    pub high-later : at + entry_lead + n ≤ high → high_in_contents l (at + entry_lead + n) ≡ high_in_contents l at
    unfolding high_in_contents
    high-later h =
        let w : at + entry_lead + n ≡ at + (entry_lead + n) = omega arith in
        rw w (sym (entries-on no_refusal (high_or_later l) l at e ∙ rw (← q, le-leb (at + entry_lead + n) high h)))

-- ---- 24 if 9206 = 1

module _ (l : List ℕ) where
  pub list-seven : list_says_seven l 0 ≡ true → high_in_contents l 0 ≡ high_in_list l
  unfolding high_in_list
  list-seven e = rw e

  pub list-not-seven : list_says_seven l 0 ≡ false → no_refusal ≡ high_in_list l
  unfolding high_in_list
  list-not-seven e = rw e
