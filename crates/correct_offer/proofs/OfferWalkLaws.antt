-- The walks of specs/ step by step: one law for each way that the code takes.
use mathlib.Core.Path.{◌≡◌, refl, sym, ap, ◌∙◌}
use mathlib.Core.Bool.{Bool, true, false, cond, not}
use mathlib.Core.List.{List}
use Prim.Native.Nat.{ℕ, zero, suc, pred, ◌+◌, ◌-◌, ◌≤◌, ◌<◌}
use native.Mathlib.Omega.{arith}
use native.Mathlib.Nat.{add-zero, zero-add}
use Rattle.std.specs.Prelude.{Option, None, Some, Ok, Err}
use borrow.Author.Tests.{le-leb, lt-leb, ne_eqb}
use lib.Dec.{leb, eqb}
use lib.ListN.{length}
use Rattle.meaning.specs.Refusals.{tells_byte, behind, refusal, bad_byte, bad_content, no_such_line, fixed_line, high_byte}
use Rattle.meaning.specs.FieldTable.{fits_label}
use Rattle.meaning.specs.Corrections.{fixed}
use Rattle.byte_low.specs.Low.{first_low}
use Rattle.meaning.specs.Lines.{least_byte}
use Rattle.byte_low.proofs.SeekLaws.{seek-most}
use Rattle.byte_high.specs.High.{first_high, seven_bits}
use Rattle.line_read.specs.Told.{told_length, told_label}
use Rattle.line_seven.specs.Seven.{says_seven, high_for}
use Rattle.correct_offer.specs.declared.OneLine.{OneLine}
use Rattle.correct_offer.specs.declared.Terms.{Terms}
use Rattle.correct_offer.specs.declared.Objection.{Objection}
use Rattle.correct_offer.specs.declared.Objection.TheVariants.{FixedLine, BadByte, BadContent, HighByte}
use Rattle.correct_offer.specs.Offered.{one_line, no_line, line_from, line_after, asks_seven, Offer, against, after_all, offered_to, offered_at, offered_high, offered}
use Rattle.correct_offer.specs.Offered.{objected_high, objected, number_by, refusal_by, refusal_by_number, offer_by, offer_spot, beyond, answered}

-- ---- a line, with k lines to skip before it: the line at the offset gives the length n

module _ (s : List ℕ) (at k n : ℕ) (e : n ≡ told_length s at) where
  module _ (h : 0 < k) where
    pub line-lost : n ≡ 0 → no_line ≡ line_from s at k
    unfolding line_from
    line-lost z = go k h
      where
        go : (i : ℕ) → 0 < i → no_line ≡ line_from s at i
        go zero h = absurd (omega arith)
        go (suc i) h = rw (← e, z)

    pub line-next : (n ≡ 0 → ⊥) → line_from s (at + (n + 9)) (k - 1) ≡ line_from s at k
    unfolding line_from
    line-next z = go k h
      where
        go : (i : ℕ) → 0 < i → line_from s (at + (n + 9)) (i - 1) ≡ line_from s at i
        go zero h = absurd (omega arith)
        go (suc i) h =
            let q : suc i - 1 ≡ i = omega arith in
            rw (← e, ne_eqb n 0 z, q)

  pub line-here : k ≡ 0 → (l : ℕ) → l ≡ told_label s at → one_line l at (n + 9) ≡ line_from s at k
  unfolding line_from
  line-here z l f = rw (z, ← e, ← f)

-- ---- the terms: the byte over 7Fh that counts is at `high`

module _ (s b : List ℕ) (high : ℕ) (e : high ≡ high_for s b) where
  pub asks-it : high < length b → true ≡ asks_seven s b
  unfolding asks_seven
  asks-it h = rw (← e, lt-leb (length b) high h)

  pub asks_nothing : length b ≤ high → false ≡ asks_seven s b
  unfolding asks_seven
  asks_nothing h = rw (← e, le-leb (length b) high h)

-- none of the bytes is over 7Fh: whatever the set says
pub plain-unasked : (s b : List ℕ) → first_high b 0 (length b) ≡ length b → asks_seven s b ≡ false
unfolding asks_seven high_for
plain-unasked s b e = rw e (go (says_seven s))
  where
    go : (x : Bool) → not (leb (length b) (cond x (length b) (length b))) ≡ false
    go true = rw (le-leb (length b) (length b) (omega arith))
    go false = rw (le-leb (length b) (length b) (omega arith))

-- ---- 24, with nothing else against the content

module _ (c : List ℕ) (high : ℕ) (e : high ≡ first_high c 0 (length c)) where
  pub high-found : high < length c → Some HighByte ≡ objected_high c true
  unfolding objected_high
  high-found h = rw (← e, lt-leb (length c) high h)

  pub high-none : length c ≤ high → None ≡ objected_high c true
  unfolding objected_high
  high-none h = rw (← e, le-leb (length c) high h)

-- ---- a content for a line with label l

module _ (l : ℕ) (c : List ℕ) (seven : Bool) where
  pub to-fixed : fixed l ≡ true → Some FixedLine ≡ objected l c seven
  unfolding objected
  to-fixed f = rw f

  module _ (f : fixed l ≡ false) (low : ℕ) (e : low ≡ first_low c 0 (length c)) where
    pub to_low : low < length c → Some BadByte ≡ objected l c seven
    unfolding objected
    to_low h = rw (f, ← e, lt-leb (length c) low h)

    module _ (h : length c ≤ low) where
      pub to-bad : fits_label l c ≡ false → Some BadContent ≡ objected l c seven
      unfolding objected
      to-bad g = rw (f, ← e, le-leb (length c) low h, g)

      pub to_high : fits_label l c ≡ true → seven ≡ true → objected_high c true ≡ objected l c seven
      unfolding objected
      to_high g q = rw (q, f, ← e, le-leb (length c) low h, g)

      pub to-good : fits_label l c ≡ true → seven ≡ false → None ≡ objected l c seven
      unfolding objected objected_high
      to-good g q = rw (q, f, ← e, le-leb (length c) low h, g)

-- ---- the offer to a line

-- what is offered to a line is what speaks against a content for its label, and the line
pub against-line : (x : OneLine) (c : List ℕ) (seven : Bool) → offer_by (objected x.label c seven) c x ≡ offered_high (offered_to x c) c seven
unfolding objected objected_high offered_to offered_high
against-line x c seven = go (fixed x.label) (leb (length c) low) (fits_label x.label c) seven (leb (length c) high)
  where
    low : ℕ
    low = first_low c 0 (length c)

    high : ℕ
    high = first_high c 0 (length c)

    -- by the five tests
    found : Bool → Bool → Bool → Bool → Bool → Option Objection
    found a b f s h = cond a (Some FixedLine) (cond b (cond f (cond s (cond h None (Some HighByte)) None) (Some BadContent)) (Some BadByte))

    to : Bool → Bool → Bool → Offer
    to a b f = cond a (against fixed_line 0 x.label x) (cond b (cond f (against 0 0 0 x) (against bad_content 0 x.label x)) (against bad_byte low 0 x))

    then : Bool → Bool → Offer → Offer
    then s b o = cond (eqb o.no 0) (cond s (cond b o (against high_byte high 0 o.line)) o) o

    go : (a b f s h : Bool) → offer_by (found a b f s h) c x ≡ then s h (to a b f)
    go true b f s h = refl
    go false false f s h = refl
    go false true false s h = refl
    go false true true false h = refl
    go false true true true true = refl
    go false true true true false = refl

-- ---- by its number

-- what a content for line x has against it by the number alone: for 6 and 24 which byte, for 20 and 14 the label
abbrev by_number : ℕ → List ℕ → OneLine → Offer
by_number n c x =
    cond (eqb n 0) (against 0 0 0 x)
    (cond (eqb n bad_byte) (against bad_byte (first_low c 0 (length c)) 0 x)
    (cond (eqb n high_byte) (against high_byte (first_high c 0 (length c)) 0 x) (against n 0 x.label x)))

number-is : (o : Option Objection) (c : List ℕ) (x : OneLine) → offer_by o c x ≡ by_number (offer_by o c x).no c x
number-is None c x = refl
number-is (Some FixedLine) c x = refl
number-is (Some BadByte) c x = refl
number-is (Some BadContent) c x = refl
number-is (Some HighByte) c x = refl

-- the case, by its number
abbrev case_of : ℕ → Option Objection
case_of n =
    cond (eqb n 0) None
    (cond (eqb n bad_byte) (Some BadByte) (cond (eqb n high_byte) (Some HighByte) (cond (eqb n bad_content) (Some BadContent) (Some FixedLine))))

case-is : (o : Option Objection) (c : List ℕ) (x : OneLine) → o ≡ case_of (offer_by o c x).no
case-is None c x = refl
case-is (Some FixedLine) c x = refl
case-is (Some BadByte) c x = refl
case-is (Some BadContent) c x = refl
case-is (Some HighByte) c x = refl

module _ (o : Option Objection) (c : List ℕ) (x : OneLine) (n : ℕ) (e : n ≡ (offer_by o c x).no) where
  by-it : offer_by o c x ≡ by_number n c x
  by-it = rw e (number-is o c x)

  pub number-good : n ≡ 0 → against 0 0 0 x ≡ offer_by o c x
  number-good z = sym (by-it ∙ rw z refl)

  pub number-low : n ≡ bad_byte → (low : ℕ) → low ≡ first_low c 0 (length c) → against bad_byte low 0 x ≡ offer_by o c x
  number-low z low f = sym (by-it ∙ rw (z, f) refl)

  pub number-high : n ≡ high_byte → (high : ℕ) → high ≡ first_high c 0 (length c) → against high_byte high 0 x ≡ offer_by o c x
  number-high z high f = sym (by-it ∙ rw (z, f) refl)

  pub number-label : (n ≡ 0 → ⊥) → (n ≡ bad_byte → ⊥) → (n ≡ high_byte → ⊥) → against n 0 x.label x ≡ offer_by o c x
  number-label z y w = sym (by-it ∙ rw (ne_eqb n 0 z, ne_eqb n bad_byte y, ne_eqb n high_byte w) refl)

-- The number says the rest: what has the number of what is offered to a line is what speaks against the content, and has its byte and its label.
pub objection-by : (x : OneLine) (c : List ℕ) (seven : Bool) (o : Option Objection) → (offer_by o c x).no ≡ (offered_high (offered_to x c) c seven).no
    → (o ≡ objected x.label c seven) × (offer_by o c x ≡ offered_high (offered_to x c) c seven)
objection-by x c seven o e =
    let f : o ≡ objected x.label c seven =
    case-is o c x ∙ (ap case_of (e ∙ ap (λ (p : Offer). p.no) (sym (against-line x c seven))) ∙ sym (case-is (objected x.label c seven) c x)) in
    (f, ap (λ (p : Option Objection). offer_by p c x) f ∙ against-line x c seven)

-- and so does its refusal: the byte, counted from `from`, or the place `at`, and the label
pub refused-by : (x : OneLine) (c : List ℕ) (seven : Bool) (o : Objection) → Some o ≡ objected x.label c seven → (at from : ℕ)
    → let p = offered_high (offered_to x c) c seven in refusal_by o x.label c at from ≡ refusal p.no (cond (tells_byte p.no) (from + p.byte) at) p.label
unfolding tells_byte
refused-by x c seven o e at from = rw (← against-line x c seven, ← e) (go o)
  where
    go : (o : Objection) → let p = offer_by (Some o) c x in refusal_by o x.label c at from ≡ refusal p.no (cond (tells_byte p.no) (from + p.byte) at) p.label
    go FixedLine = refl
    go BadByte = refl
    go BadContent = refl
    go HighByte = refl

-- its number says the same refusal
pub by-its-number : (o : Objection) (l : ℕ) (c : List ℕ) (at from : ℕ) → refusal_by_number (number_by o) l c at from ≡ refusal_by o l c at from
unfolding refusal_by_number
by-its-number FixedLine l c at from = refl
by-its-number BadByte l c at from = refl
by-its-number BadContent l c at from = refl
by-its-number HighByte l c at from = refl

-- the answer of an offer that is told by what speaks against the content
pub answer-none : (c : List ℕ) (x : OneLine) → Ok x ≡ answered (offer_by None c x)
answer-none c x = refl

pub answer-some : (o : Objection) (c : List ℕ) (x : OneLine) → Err (record { refusal = refusal_by o x.label c x.at 0; line = x }) ≡ answered (offer_by (Some o) c x)
unfolding tells_byte
answer-some FixedLine c x = refl
answer-some BadByte c x = rw (zero-add (first_low c 0 (length c))) refl
answer-some BadContent c x = refl
answer-some HighByte c x = rw (zero-add (first_high c 0 (length c))) refl

-- an objection is a refusal, and its refusal is placed as an offer's is, `lead` bytes before the content
pub refused-so : (o : Objection) (c : List ℕ) (x : OneLine) → eqb (offer_by (Some o) c x).no 0 ≡ false
refused-so FixedLine c x = refl
refused-so BadByte c x = refl
refused-so BadContent c x = refl
refused-so HighByte c x = refl

pub placed-so : (o : Objection) (l : ℕ) (c : List ℕ) (at from lead : ℕ) → from ≡ at + lead
    → refusal_by o l c at from ≡ (let p = offer_by (Some o) c (one_line l 0 0) in refusal p.no (at + behind lead (offer_spot p)) p.label)
unfolding tells_byte
placed-so FixedLine l c at from lead e = rw (add-zero at) refl
placed-so BadByte l c at from lead e =
    let p : from + first_low c 0 (length c) ≡ at + (lead + first_low c 0 (length c)) = omega arith in
    rw p refl
placed-so BadContent l c at from lead e = rw (add-zero at) refl
placed-so HighByte l c at from lead e =
    let p : from + first_high c 0 (length c) ≡ at + (lead + first_high c 0 (length c)) = omega arith in
    rw p refl

-- a refusal that tells a byte of the content, counted from `from`; the others stay as they are
pub counted-from : (o : Objection) (l : ℕ) (c : List ℕ) (at from : ℕ)
    → let r = refusal_by o l c at 0 in refusal r.no (cond (tells_byte r.no) (from + r.place) at) r.label ≡ refusal_by o l c at from
unfolding tells_byte
counted-from FixedLine l c at from = refl
counted-from BadByte l c at from = rw (zero-add (first_low c 0 (length c))) refl
counted-from BadContent l c at from = refl
counted-from HighByte l c at from = rw (zero-add (first_high c 0 (length c))) refl

-- and the byte stands in the content, or after it
pub objected-byte : (o : Objection) (l : ℕ) (c : List ℕ) (at : ℕ) → let r = refusal_by o l c at 0 in cond (tells_byte r.no) r.place 0 ≤ length c
unfolding tells_byte
objected-byte FixedLine l c at = omega arith
objected-byte BadByte l c at = omega (arith, seek-most (leb least_byte) c (length c) 0)
objected-byte BadContent l c at = omega arith
objected-byte HighByte l c at = omega (arith, seek-most seven_bits c (length c) 0)

module _ (s : List ℕ) (t : Terms) (n : ℕ) (c : List ℕ) where
  pub number-none : n < 1 → against no_such_line 0 0 (after_all t.length) ≡ offered s t n c
  unfolding offered offered_at offered_high
  number-none h = rw (lt-leb 1 n h)

  pub number-beyond : t.lines < n → against no_such_line 0 0 (after_all t.length) ≡ offered s t n c
  unfolding offered offered_at offered_high
  number-beyond h = rw (le-leb 1 n (omega arith), lt-leb n t.lines h)

  pub number-there : 1 ≤ n → n ≤ t.lines → let x = line_after s (n - 1) in offer_by (objected x.label c t.seven) c x ≡ offered s t n c
  unfolding offered offered_at
  number-there g h =
      let e : n - 1 ≡ pred n = omega arith in
      rw (le-leb 1 n g, le-leb n t.lines h, e) (against-line (line_after s (pred n)) c t.seven)

  -- ---- the answer of a change

  pub change-none : n < 1 → Err (beyond t.length) ≡ answered (offered s t n c)
  unfolding tells_byte
  change-none h = rw (← number-none h) refl

  pub change-beyond : t.lines < n → Err (beyond t.length) ≡ answered (offered s t n c)
  unfolding tells_byte
  change-beyond h = rw (← number-beyond h) refl

  pub change-there : 1 ≤ n → n ≤ t.lines → (x : OneLine) → x ≡ line_after s (n - 1) → (seven : Bool) → seven ≡ t.seven → (o : Option Objection) → o ≡ objected x.label c seven
      → answered (offer_by o c x) ≡ answered (offered s t n c)
  change-there g h x p seven q o r = rw (r, q, p, ← number-there g h) refl
