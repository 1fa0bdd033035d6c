-- What each `return` of the walk has to show; then what the walk is for lines that were read: the place of the first one with the label, or 0.
use mathlib.Core.Path.{◌≡◌, refl, sym, ap, ◌∙◌}
use mathlib.Core.Bool.{Bool, true, false, ◌&&◌}
use mathlib.Core.List.{List, [], ◌∷◌, ◌++◌}
use mathlib.Core.Logic.{◌⊎◌, inl, inr, ◌≢◌}
use Prim.Native.Nat.{ℕ, zero, suc, ◌+◌, ◌-◌, ◌/◌, ◌%◌, ◌^◌, ◌≤◌, ◌<◌}
use native.Mathlib.Omega.{arith}
use native.Mathlib.Nat.{add-zero, zero-add}
use lib.Dec.{eqb}
use lib.ListN.{length, get_or, take, drop, length-drop}
use lib.Seq.{get_or-drop, get_or-take, drop-drop, drop_at, take_at}
use borrow.Author.Tests.{le-leb, lt-leb, eq-eqb, ne_eqb, eqb-true, eqb-false}
use Rattle.meaning.specs.Limits.{max_lines}
use Rattle.meaning.specs.Field.{Field, no_field, label_at_line, content_at_line}
use Rattle.meaning.specs.Digits.{digit_zero, digits, number}
use Rattle.meaning.specs.Kinds.{same_bytes}
use Rattle.meaning.specs.Lines.{length_digits, label_digits, line_lead, line_end, cr, lf, line_size, offset, render}
use Rattle.meaning.proofs.Bools.{Every, every-at}
use Rattle.meaning.proofs.DigitLaws.{number_digits, length-digits}
use Rattle.meaning.proofs.SameLaws.{same-bytes, bytes_same}
use Rattle.meaning.proofs.LeftLaws.{one-more, none_left}
use Rattle.meaning.proofs.LineLaws.{Sound}
use Rattle.meaning.proofs.PlaceLaws.{content-at}
use Rattle.line_read.specs.Told.{told_length}
use Rattle.line_read.proofs.LineMeaning.{read-line, read_back, reads_on}
use Rattle.line_read.proofs.ToldLaws.{four-bytes, read_told}
use Rattle.line_find.specs.FirstPlace.{label_stands, place_from, first_place}

-- ---- the walk over lines, of which `lines` were passed over

module _ (l : ℕ) (s : List ℕ) (at lines : ℕ) where
  -- the most lines are passed over
  pub place_none : max_lines ≤ lines → 0 ≡ place_from l s at (max_lines - lines)
  unfolding place_from
  place_none h = rw (none_left h)

  module _ (h : lines < max_lines) where
    -- under seven bytes stand there
    pub place-cut : length s < at + line_lead → 0 ≡ place_from l s at (max_lines - lines)
    unfolding place_from
    place-cut g = rw (one-more h, lt-leb (at + line_lead) (length s) g)

    module _ (g : at + line_lead ≤ length s) where
      pub place_here : label_stands l s at ≡ true → at + line_lead ≡ place_from l s at (max_lines - lines)
      unfolding place_from
      place_here q = rw (one-more h, le-leb (at + line_lead) (length s) g, q)

      pub place-next : label_stands l s at ≡ false → (n : ℕ) → n ≡ told_length s at
          → place_from l s (at + (n + (line_lead + line_end))) (max_lines - (lines + 1)) ≡ place_from l s at (max_lines - lines)
      unfolding place_from
      place-next q n d = rw (one-more h, le-leb (at + line_lead) (length s) g, q, ← d)

-- ---- the label's digits, byte by byte

and-true : (b : Bool) → b && true ≡ b
and-true true = refl
and-true false = refl

module _ (l : ℕ) (s : List ℕ) (at : ℕ) (h : at + line_lead ≤ length s) where
  abbrev byte : ℕ → ℕ
  byte k = get_or s (at + length_digits + k) 0

  abbrev last_digit : ℕ → ℕ
  last_digit n = digit_zero + n % 10

  by_bytes : label_stands l s at ≡ eqb (get_or s (at + length_digits) 0) (last_digit (l / 10 / 10 / 10))
      && (eqb (byte 1) (last_digit (l / 10 / 10)) && (eqb (byte 2) (last_digit (l / 10)) && (eqb (byte 3) (last_digit l) && true)))
  unfolding label_stands same_bytes
  by_bytes = rw (four-bytes s (at + length_digits) (omega arith)) refl

  -- the first byte that differs; else the last one decides
  module _ (d : ℕ) (e : d ≡ last_digit (l / 10 / 10 / 10)) where
    pub first-differs : (get_or s (at + length_digits) 0 ≡ d → ⊥) → false ≡ label_stands l s at
    first-differs n = sym (by_bytes ∙ rw (← e, ne_eqb (get_or s (at + length_digits) 0) d n) refl)

    module _ (q : get_or s (at + length_digits) 0 ≡ d) (d₁ : ℕ) (e₁ : d₁ ≡ last_digit (l / 10 / 10)) where
      pub second-differs : (byte 1 ≡ d₁ → ⊥) → false ≡ label_stands l s at
      second-differs n = sym (by_bytes ∙ rw (← e, ← e₁, eq-eqb (get_or s (at + length_digits) 0) d q, ne_eqb (byte 1) d₁ n) refl)

      module _ (q₁ : byte 1 ≡ d₁) (d₂ : ℕ) (e₂ : d₂ ≡ last_digit (l / 10)) where
        pub third-differs : (byte 2 ≡ d₂ → ⊥) → false ≡ label_stands l s at
        third-differs n = sym (by_bytes ∙ rw (← e, ← e₁, ← e₂, eq-eqb (get_or s (at + length_digits) 0) d q, eq-eqb (byte 1) d₁ q₁, ne_eqb (byte 2) d₂ n) refl)

        pub last-decides : byte 2 ≡ d₂ → (d₃ : ℕ) → d₃ ≡ last_digit l → eqb (byte 3) d₃ ≡ label_stands l s at
        last-decides q₂ d₃ e₃ =
            sym (by_bytes
            ∙ rw (← e, ← e₁, ← e₂, ← e₃, eq-eqb (get_or s (at + length_digits) 0) d q, eq-eqb (byte 1) d₁ q₁, eq-eqb (byte 2) d₂ q₂) (and-true (eqb (byte 3) d₃)))

-- ---- lines that were read

-- line k is the first with label l
pub record FirstLine (l : ℕ) (fs : List Field) (k : ℕ) : Type 0 where
  pub inside : k < length fs
  pub named : label_at_line fs k ≡ l
  pub none_before : (j : ℕ) → j < k → label_at_line fs j ≢ l

-- no line has label l
abbrev pub NoLine : ℕ → List Field → Type 0
NoLine l fs = (k : ℕ) → k < length fs → label_at_line fs k ≢ l

-- the line in front is the first one, or the first one stands after it
module _ (l : ℕ) (f : Field) (fs : List Field) where
  pub first-here : f.label ≡ l → FirstLine l (f ∷ fs) 0
  first-here e = record { inside = omega arith; named = e; none_before = λ j h. absurd (omega arith) }

  pub first-later : (k : ℕ) → f.label ≢ l → FirstLine l fs k → FirstLine l (f ∷ fs) (suc k)
  first-later k n x = record { inside = omega (arith, x.inside); named = x.named; none_before = before }
    where
      before : (j : ℕ) → j < suc k → label_at_line (f ∷ fs) j ≢ l
      before zero h = n
      before (suc j) h = x.none_before j (omega arith)

-- there is a first one, or none
pub first_or_none : (l : ℕ) (fs : List Field) → ((k : ℕ) × FirstLine l fs k) ⊎ NoLine l fs
first_or_none l [] = inr (λ k h. absurd (omega arith))
first_or_none l (f ∷ fs) = go (eqb f.label l) refl (first_or_none l fs)
  where
    go : (b : Bool) → eqb f.label l ≡ b → ((k : ℕ) × FirstLine l fs k) ⊎ NoLine l fs → ((k : ℕ) × FirstLine l (f ∷ fs) k) ⊎ NoLine l (f ∷ fs)
    go true e x = inl (0, first-here l f fs (eqb-true f.label l e))
    go false e (inl (k, x)) = inl (suc k, first-later l f fs k (eqb-false f.label l e) x)
    go false e (inr x) = inr none
      where
        none : NoLine l (f ∷ fs)
        none zero h = eqb-false f.label l e
        none (suc j) h = x j (omega arith)

-- digits are the same if their numbers are
same_digits : (a l : ℕ) → a < 10 ^ label_digits → l < 10 ^ label_digits → same_bytes (digits label_digits a) (digits label_digits l) ≡ eqb a l
same_digits a l h g = go (eqb a l) refl (same_bytes (digits label_digits a) (digits label_digits l)) refl
  where
    go : (b : Bool) → eqb a l ≡ b → (c : Bool) → same_bytes (digits label_digits a) (digits label_digits l) ≡ c → c ≡ b
    go true e c q = sym q ∙ (ap (λ (n : ℕ). same_bytes (digits label_digits n) (digits label_digits l)) (eqb-true a l e) ∙ bytes_same (digits label_digits l))
    go false e false q = refl
    go false e true q =
        absurd (eqb-false a l e (sym (number_digits label_digits a h) ∙ (ap number (same-bytes _ _ q) ∙ number_digits label_digits l g)))

-- the lines fs are written from offset `at` on
module _ (l : ℕ) (small : l < 10 ^ label_digits) (s : List ℕ) where
  -- a line says its label
  stands-is : (f : Field) (u : List ℕ) (at : ℕ) → Sound f → drop at s ≡ render (f ∷ []) u → label_stands l s at ≡ eqb f.label l
  unfolding label_stands
  stands-is f u at h w =
      let four : List ℕ = digits label_digits f.label in
      let rest : List ℕ = f.content ++ (cr ∷ lf ∷ u) in
      let three : drop (at + length_digits) s ≡ four ++ rest =
      sym (drop-drop length_digits at s) ∙ (ap (drop length_digits) w ∙ drop_at (digits length_digits (line_size f)) (four ++ rest) length_digits (length-digits length_digits (line_size f))) in
      ap (λ (x : List ℕ). same_bytes (take label_digits x) (digits label_digits l)) three
      ∙ (ap (λ (x : List ℕ). same_bytes x (digits label_digits l)) (take_at four rest label_digits (length-digits label_digits f.label))
      ∙ same_digits f.label l h.label-fits small)

  -- a step over the first of them, if it has another label
  step-over : (f : Field) (u : List ℕ) (at n : ℕ) → Sound f → drop at s ≡ render (f ∷ []) u → f.label ≢ l → place_from l s at (suc n) ≡ place_from l s (at + line_size f) n
  unfolding place_from
  step-over f u at n h w q =
      let r = read-line s at f u w h in
      let b = read_back s at r in
      let told = read_told s at r in
      let m : told_length s at ≡ length f.content = omega (arith, told.0) in
      rw (le-leb (at + line_lead) (length s) (omega (arith, b.within)), stands-is f u at h w, m, ne_eqb f.label l q)

  -- the first line with the label: by one step for each line before it
  place-from : (fs : List Field) (t : List ℕ) (at n k : ℕ) → Every Sound fs → drop at s ≡ render fs t → length fs ≤ n → FirstLine l fs k → place_from l s at n ≡ at + (offset fs k + line_lead)
  unfolding place_from
  place-from [] t at n k h w c x = absurd (omega (arith, x.inside))
  place-from (f ∷ fs) t at zero k h w c x = absurd (omega arith)
  place-from (f ∷ fs) t at (suc n) zero h w c x =
      let r = read-line s at f (render fs t) w h.0 in
      let b = read_back s at r in
      rw (le-leb (at + line_lead) (length s) (omega (arith, b.within)), stands-is f (render fs t) at h.0 w, eq-eqb f.label l x.named)
  place-from (f ∷ fs) t at (suc n) (suc k) h w c x =
      let rest : FirstLine l fs k = record { inside = omega (arith, x.inside); named = x.named; none_before = λ j q. x.none_before (suc j) (omega arith) } in
      step-over f (render fs t) at n h.0 w (x.none_before 0 (omega arith))
      ∙ (place-from fs t (at + line_size f) n k h.1 (reads_on s at f (render fs t) h.0 w) (omega arith) rest ∙ omega arith)

  -- no line has it, and nothing follows the lines
  none_from : (fs : List Field) (at n : ℕ) → Every Sound fs → drop at s ≡ render fs [] → at ≤ length s → NoLine l fs → place_from l s at n ≡ 0
  unfolding place_from
  none_from fs at zero h w c x = refl
  none_from [] at (suc n) h w c x =
      let d : length s - at ≡ 0 = sym (length-drop at s) ∙ ap length w in
      rw (lt-leb (at + line_lead) (length s) (omega arith))
  none_from (f ∷ fs) at (suc n) h w c x =
      step-over f (render fs []) at n h.0 w (x 0 (omega arith))
      ∙ none_from fs (at + line_size f) n h.1 (reads_on s at f (render fs []) h.0 w) (read_back s at (read-line s at f (render fs []) w h.0)).within (λ k q. x (suc k) (omega arith))

-- the walk over a set: where the content of the first line with the label stands
pub place_is : (l : ℕ) → l < 10 ^ label_digits → (fs : List Field) (t : List ℕ) (k : ℕ)
    → Every Sound fs → length fs ≤ max_lines → FirstLine l fs k → first_place (render fs t) l ≡ offset fs k + line_lead
place_is l small fs t k h c x = place-from l small (render fs t) fs t 0 max_lines k h refl c x ∙ zero-add (offset fs k + line_lead)

-- and 0 if no line has it, and the set stands alone
pub place-absent : (l : ℕ) → l < 10 ^ label_digits → (fs : List Field) → Every Sound fs → NoLine l fs → first_place (render fs []) l ≡ 0
place-absent l small fs h x = none_from l small (render fs []) fs 0 max_lines h refl (omega arith) x

-- the first byte of a line's content stands after its lead
pub first_byte : (fs : List Field) (k : ℕ) → Every Sound fs → k < length fs → get_or (render fs []) (offset fs k + line_lead) 0 ≡ get_or (content_at_line fs k) 0 0
first_byte fs k h l =
    let s : List ℕ = render fs [] in
    let at : ℕ = offset fs k + line_lead in
    let some : 0 < length (content_at_line fs k) = (every-at Sound fs k no_field l h).some_byte in
    ap (λ (n : ℕ). get_or s n 0) (sym (add-zero at)) ∙ (sym (get_or-drop at s 0 0)
    ∙ (sym (get_or-take (length (content_at_line fs k)) (drop at s) 0 0 some) ∙ ap (λ (c : List ℕ). get_or c 0 0) (content-at fs k [] l)))
