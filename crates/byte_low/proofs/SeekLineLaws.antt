-- A search over the bytes of lines, by a test that every byte below 80h passes: digits, 0Dh and 0Ah are such bytes, so what it finds is the first fault of the contents.
use mathlib.Core.Path.{◌≡◌, refl, sym, ap, ◌∙◌}
use mathlib.Core.Bool.{Bool, true, false, cond}
use mathlib.Core.List.{List, [], ◌∷◌, ◌++◌}
use Prim.Native.Nat.{ℕ, suc, ◌+◌, ◌≤◌, ◌<◌}
use native.Mathlib.Omega.{arith}
use native.Mathlib.Nat.{add-zero, zero-add}
use lib.Dec.{leb}
use lib.ListN.{length, take, drop, length-drop, length-append}
use lib.Seq.{drop-drop, drop_at, take_at}
use borrow.Author.Tests.{le-leb, lt-leb, leb-true, leb-false}
use Rattle.meaning.specs.declared.Refusal.{Refusal}
use Rattle.meaning.specs.Digits.{digits}
use Rattle.meaning.specs.Field.{Field}
use Rattle.meaning.specs.Refusals.{Spot, byte, Fault, at_byte, ask, refusal}
use Rattle.meaning.specs.Lines.{length_digits, label_digits, line_lead, line_end, cr, lf, line_size, line_then, size, offset, render, most_seven_bits}
use Rattle.meaning.specs.Reading.{in_set}
use Rattle.meaning.specs.Answers.{no_refusal}
use Rattle.meaning.proofs.Bools.{Every}
use Rattle.meaning.proofs.FaultLaws.{Plain}
use Rattle.meaning.proofs.FirstLaws.{first_of}
use Rattle.meaning.proofs.DigitLaws.{plain-digits, digits-all}
use Rattle.meaning.proofs.PlaceLaws.{drop-line_then}
use Rattle.byte_low.specs.Seek.{first_not}
use Rattle.byte_low.proofs.SeekLaws.{seek-after, seek-most, seek-stops, seek-through, seek_is}

-- a refusal by this number at an offset, if it lies before the end
abbrev pub found_before : ℕ → ℕ → ℕ → Refusal
found_before n end at = cond (leb end at) no_refusal (refusal n at 0)

module _ (ok : ℕ → Bool) (no : ℕ) (passes : (b : ℕ) → b ≤ most_seven_bits → ok b ≡ true) where
  -- ---- one line

  pub all_pass : (c : List ℕ) → Plain c → Every (λ b. ok b ≡ true) c
  all_pass [] h = tt
  all_pass (b ∷ c) h = (passes b h.0, all_pass c h.1)

  pass-both : (a b : List ℕ) → Every (λ x. ok x ≡ true) a → Every (λ x. ok x ≡ true) b → Every (λ x. ok x ≡ true) (a ++ b)
  pass-both [] b h g = g
  pass-both (x ∷ a) b h g = (h.0, pass-both a b h.1 g)

  module _ (s : List ℕ) (f : Field) (u : List ℕ) (at : ℕ) (w : drop at s ≡ line_then f u) where
    -- the bytes before the content are digits
    abbrev lead : List ℕ
    lead = digits length_digits (line_size f) ++ digits label_digits f.label

    abbrev from : ℕ
    from = at + line_lead

    abbrev bytes : ℕ
    bytes = length f.content

    abbrev here : ℕ
    here = first_not ok s from bytes

    at-content : drop from s ≡ f.content ++ (cr ∷ lf ∷ u)
    at-content = sym (drop-drop line_lead at s) ∙ ap (drop line_lead) w

    at-end : drop (from + bytes) s ≡ cr ∷ lf ∷ u
    at-end = sym (drop-drop bytes from s) ∙ (ap (drop bytes) at-content ∙ drop_at f.content (cr ∷ lf ∷ u) bytes refl)

    digits-pass : (k n : ℕ) → Every (λ b. ok b ≡ true) (digits k n)
    digits-pass k n = all_pass (digits k n) (plain-digits (digits k n) (digits-all k n))

    lead-passes : Every (λ b. ok b ≡ true) lead
    lead-passes = pass-both (digits length_digits (line_size f)) (digits label_digits f.label) (digits-pass length_digits (line_size f)) (digits-pass label_digits f.label)

    -- the search passes over the digits
    after-lead : (m : ℕ) → first_not ok s at (line_lead + m) ≡ first_not ok s from m
    after-lead m = seek-after ok s line_lead m at (seek-through ok s lead (f.content ++ (cr ∷ lf ∷ u)) at w lead-passes)

    -- and over the end of the line
    after-end : (m : ℕ) → first_not ok s (from + bytes) (line_end + m) ≡ first_not ok s (at + line_size f) m
    after-end m =
        let n : from + bytes + line_end ≡ at + line_size f = omega arith in
        let both : Every (λ b. ok b ≡ true) (cr ∷ lf ∷ []) = (passes cr (omega arith), (passes lf (omega arith), tt)) in
        seek-after ok s line_end m (from + bytes) (seek-through ok s (cr ∷ lf ∷ []) u (from + bytes) at-end both)
        ∙ ap (λ (x : ℕ). first_not ok s x m) n

    -- So the content decides, or what stands after the line.
    seek-line : (m : ℕ) → found_before no (at + (line_size f + m)) (first_not ok s at (line_size f + m))
        ≡ cond (leb (from + bytes) here) (found_before no (at + line_size f + m) (first_not ok s (at + line_size f) m)) (refusal no here 0)
    seek-line m = ap (found_before no (at + (line_size f + m))) (ap (first_not ok s at) all ∙ after-lead (bytes + (line_end + m))) ∙ go (leb (from + bytes) here) refl
      where
        all : line_size f + m ≡ line_lead + (bytes + (line_end + m))
        all = omega arith

        go : (b : Bool) → leb (from + bytes) here ≡ b → found_before no (at + (line_size f + m)) (first_not ok s from (bytes + (line_end + m)))
            ≡ cond b (found_before no (at + line_size f + m) (first_not ok s (at + line_size f) m)) (refusal no here 0)
        go true q =
            let over : here ≡ from + bytes = omega (arith, leb-true (from + bytes) here q, seek-most ok s bytes from) in
            let e : at + (line_size f + m) ≡ at + line_size f + m = omega arith in
            rw e (ap (found_before no (at + line_size f + m)) (seek-after ok s bytes (line_end + m) from over ∙ after-end m))
        go false q =
            let stops : here < from + bytes = leb-false (from + bytes) here q in
            ap (found_before no (at + (line_size f + m))) (seek-stops ok s bytes (line_end + m) from stops)
            ∙ rw (lt-leb (at + (line_size f + m)) here (omega arith))

  -- ---- all lines: a fault for each byte of a content that fails the test, from byte i of the content on (`faults k i`), in the lines from the k-th on (`from k`)
  module _ (faults : ℕ → ℕ → List ℕ → List Fault) (from : ℕ → List Field → List Fault) (none : (k i : ℕ) → faults k i [] ≡ [])
      (more : (k i b : ℕ) (bs : List ℕ) → faults k i (b ∷ bs) ≡ ask (ok b) (at_byte no k i) ++ faults k (suc i) bs) (no_lines : (k : ℕ) → from k [] ≡ [])
      (one-line : (k : ℕ) (f : Field) (fs : List Field) → from k (f ∷ fs) ≡ faults k 0 f.content ++ from (k + 1) fs) where
    -- the lines fs are written from offset `at` on; `pl` gives the offset of a byte of a content, of the lines from the k-th on
    seek-lines : (s : List ℕ) (pl : ℕ → Spot → ℕ) (fs : List Field) (at k : ℕ) → drop at s ≡ render fs []
        → ((j i : ℕ) → pl (k + j) (byte i) ≡ at + offset fs j + (line_lead + i))
        → found_before no (at + size fs) (first_not ok s at (size fs)) ≡ first_of pl (from k fs)
    unfolding first_not
    seek-lines s pl [] at k w h = rw (no_lines k, add-zero at, le-leb at at (omega arith))
    seek-lines s pl (f ∷ fs) at k w h =
        let next : drop (at + line_size f) s ≡ render fs [] = sym (drop-drop (line_size f) at s) ∙ (ap (drop (line_size f)) w ∙ drop-line_then f (render fs [])) in
        let ih = seek-lines s pl fs (at + line_size f) (k + 1) next (λ j i. ap (λ (n : ℕ). pl n (byte i)) (one k j) ∙ (h (suc j) i ∙ omega arith)) in
        let c = at-content s f (render fs []) at w in
        let there : take (length f.content) (drop (at + line_lead) s) ≡ f.content = ap (take (length f.content)) c ∙ take_at f.content (cr ∷ lf ∷ render fs []) (length f.content) refl in
        let few : length f.content ≤ length (drop (at + line_lead) s) = omega (arith, ap length c, length-append f.content (cr ∷ lf ∷ render fs [])) in
        let some : 2 ≤ length (drop (at + line_lead) s) = omega (arith, ap length c, length-append f.content (cr ∷ lf ∷ render fs [])) in
        let long : at + line_lead + length f.content ≤ length s = omega (arith, few, some, length-drop (at + line_lead) s) in
        let place : (i : ℕ) → pl k (byte i) ≡ at + line_lead + i = λ i. ap (λ (n : ℕ). pl n (byte i)) (sym (add-zero k)) ∙ (h 0 i ∙ omega arith) in
        seek-line s f (render fs []) at w (size fs)
        ∙ (rw ih (seek_is ok (λ xs. first_of pl (xs ++ from (k + 1) fs)) (λ i. refusal no i 0) no k (at + line_lead) (faults k) (none k) (more k)
        (λ i xs. ap (λ (n : ℕ). refusal no n 0) (place i))
        s (length f.content) (at + line_lead) 0 (omega arith) long)
        ∙ (ap (λ (x : List ℕ). first_of pl (faults k 0 x ++ from (k + 1) fs)) there ∙ ap (first_of pl) (sym (one-line k f fs))))
      where
        one : (k j : ℕ) → k + 1 + j ≡ k + suc j
        one k j = omega arith

    -- the bytes of a set: the first of them that fails the test is the first fault of its contents
    pub seek_set : (fs : List Field) → found_before no (size fs) (first_not ok (render fs []) 0 (size fs)) ≡ first_of (in_set fs) (from 0 fs)
    seek_set fs =
        ap (λ (n : ℕ). found_before no n (first_not ok (render fs []) 0 (size fs))) (sym (zero-add (size fs)))
        ∙ seek-lines (render fs []) (in_set fs) fs 0 0 refl (λ j i. ap (λ (n : ℕ). in_set fs n (byte i)) (zero-add j) ∙ omega arith)
