-- What the terms of an accepted set mean: 24 has to be asked of a new content exactly if they say so, or the content has no byte over 7Fh.
use mathlib.Core.Path.{◌≡◌, refl, sym, ◌∙◌}
use mathlib.Core.Bool.{Bool, true, false, cond, not, true≢false}
use mathlib.Core.List.{List, [], ◌∷◌}
use Prim.Native.Nat.{ℕ, zero, suc, ◌≤◌}
use native.Mathlib.Omega.{arith}
use native.Mathlib.Nat.{zero-add}
use lib.Dec.{leb}
use borrow.Author.Tests.{le-leb}
use lib.ListN.{length, take, drop}
use lib.Seq.{take_all}
use Rattle.meaning.specs.Field.{Field}
use Rattle.meaning.specs.Refusals.{at_byte, done, high_byte}
use Rattle.meaning.specs.Pieces.{Parsed}
use Rattle.meaning.specs.Lines.{most_seven_bits, high_bytes, size}
use Rattle.meaning.specs.Rules.{profile, seven_bit}
use Rattle.meaning.specs.Reading.{shape, read}
use Rattle.meaning.specs.Corrections.{seven_bit_faults}
use Rattle.meaning.proofs.Bools.{not-true, not-false, Every, every_drop}
use Rattle.meaning.proofs.FaultLaws.{Plain, highs-none, highs-back, one-back}
use Rattle.meaning.proofs.RuleLaws.{ruled}
use Rattle.meaning.proofs.SetLaws.{accepted}
use Rattle.byte_high.specs.High.{first_high}
use Rattle.byte_high.proofs.HighLaws.{high_is}
use Rattle.line_seven.specs.Seven.{says_seven, high_for}
use Rattle.line_seven.proofs.SevenMeaning.{seven-told}
use Rattle.correct_offer.specs.declared.Terms.{Terms}
use Rattle.correct_offer.specs.Offered.{asks_seven, terms_of}

-- ---- the bytes over 7Fh

-- their first fault is at the byte that is found first
pub highs-first : (k : ℕ) (c : List ℕ) → let high = first_high c 0 (length c) in take 1 (high_bytes k 0 c) ≡ cond (leb (length c) high) [] (at_byte high_byte k high ∷ [])
highs-first k c =
    sym (rw (take_all (length c) c (omega arith), zero-add (length c)) at
    (high_is (λ xs. take 1 xs) (λ i. at_byte high_byte k i ∷ []) k 0 (λ i xs. rw (zero-add i)) c (length c) 0 0 refl (omega arith)))

-- if none is found, there is none
found_plain : (c : List ℕ) → leb (length c) (first_high c 0 (length c)) ≡ true → Plain c
found_plain c e = highs-back 0 0 c (one-back (high_bytes 0 0 c) (highs-first 0 c ∙ rw e))

every_take : {A : Type 0} (P : A → Type 0) (n : ℕ) (xs : List A) → Every P xs → Every P (take n xs)
every_take P zero xs h = tt
every_take P (suc n) [] h = tt
every_take P (suc n) (x ∷ xs) h = (h.0, every_take P n xs h.1)

-- a part of such bytes
plain-part : (b : List ℕ) (at n : ℕ) → Plain b → Plain (take n (drop at b))
plain-part b at n h = every_take (λ y. y ≤ most_seven_bits) n (drop at b) (every_drop (λ y. y ≤ most_seven_bits) at b h)

-- ---- terms that serve

-- The terms serve for a new content of the lines fs: they say how many bytes and lines these have. If they ask for seven bits, so do the lines; if they do not and the lines do,
-- the content has no byte over 7Fh, and nothing is lost.
pub record Serves (fs : List Field) (t : Terms) (c : List ℕ) : Type 0 where
  pub length-so : t.length ≡ size fs
  pub lines-so : t.lines ≡ length fs
  pub asked : t.seven ≡ true → seven_bit fs ≡ true
  pub unasked : t.seven ≡ false → seven_bit fs ≡ true → Plain c

-- then 24 may be asked by the terms
pub terms-ask : (fs : List Field) (t : Terms) (c : List ℕ) (k : ℕ) → Serves fs t c → seven_bit_faults fs k c ≡ cond t.seven (high_bytes k 0 c) []
terms-ask fs t c k v = go t.seven (seven_bit fs) v.asked v.unasked
  where
    go : (a b : Bool) → (a ≡ true → b ≡ true) → (a ≡ false → b ≡ true → Plain c) → cond b (high_bytes k 0 c) [] ≡ cond a (high_bytes k 0 c) []
    go true true p q = refl
    go true false p q = absurd (true≢false (sym (p refl)))
    go false true p q = highs-none k 0 c (q refl refl)
    go false false p q = refl

module _ (s : List ℕ) (d : Parsed) (e : read s ≡ done d) (alone : d.rest ≡ []) where
  -- a set that stands alone says what its lines say
  says_is : says_seven s ≡ seven_bit d.fields
  says_is =
      let a = accepted s d e in
      let st = a.standing in
      rw (a.bytes, alone) (seven-told (profile d.fields) d.fields st.sound st.few (ruled d.fields st.right).0.each-line)

  -- its terms serve for each content that has no byte over 7Fh if the bytes that are offered have none
  terms-serve : (b c : List ℕ) → (Plain b → Plain c) → Serves d.fields (terms_of s (shape d.fields) b) c
  unfolding asks_seven high_for
  terms-serve b c p = record { length-so = refl; lines-so = refl; asked = asked_by (says_seven s) refl; unasked = unasked-by (says_seven s) refl }
    where
      -- what is found, by whether the set says seven bits
      over_all : Bool → Bool
      over_all x = leb (length b) (cond x (first_high b 0 (length b)) (length b))

      asked_by : (x : Bool) → says_seven s ≡ x → not (over_all x) ≡ true → seven_bit d.fields ≡ true
      asked_by true h q = sym says_is ∙ h
      asked_by false h q = absurd (true≢false (sym (le-leb (length b) (length b) (omega arith)) ∙ not-true (over_all false) q))

      unasked-by : (x : Bool) → says_seven s ≡ x → not (over_all x) ≡ false → seven_bit d.fields ≡ true → Plain c
      unasked-by true h q r = p (found_plain b (not-false (over_all true) q))
      unasked-by false h q r = absurd (true≢false (sym r ∙ (sym says_is ∙ h)))

  -- for the new content of a correction
  pub content-served : (c : List ℕ) → Serves d.fields (terms_of s (shape d.fields) c) c
  content-served c = terms-serve c c (λ h. h)

  -- and for each part of a sheet
  pub part-served : (b : List ℕ) (at n : ℕ) → Serves d.fields (terms_of s (shape d.fields) b) (take n (drop at b))
  part-served b at n = terms-serve b (take n (drop at b)) (plain-part b at n)
