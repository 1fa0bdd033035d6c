-- The walks of `line_after`, `terms_of`, `judge_content`, `Objection::refusal`, `refusal_by_number` and `judge_change`: the lines of a set by offsets, whether seven bits have to be
-- asked for, and the tests 19, 20, 6, 14, 24 in the code's order. What they mean for an accepted set is `line-stands` and `offer-is` in proofs/OfferLaws, and `content-served` and
-- `part-served` in proofs/TermsLaws.
use Rattle.std.specs.Prelude.{Bool, cond, not, ◌&&◌, List, [], ◌∷◌, ℕ, zero, suc, pred, ◌+◌, length, leb, eqb, Option, None, Some, Result, Ok, Err}
use Rattle.meaning.specs.declared.Refusal.{Refusal}
use Rattle.meaning.specs.declared.Shape.{Shape}
use Rattle.meaning.specs.Refusals.{Spot, start, byte, Fault, tells_byte, refusal, bad_byte, bad_content, no_such_line, fixed_line, high_byte}
use Rattle.meaning.specs.Answers.{no_refusal}
use Rattle.meaning.specs.Lines.{line_lead, line_end}
use Rattle.meaning.specs.FieldTable.{fits_label}
use Rattle.meaning.specs.Corrections.{fixed}
use Rattle.byte_low.specs.Low.{first_low}
use Rattle.byte_high.specs.High.{first_high}
use Rattle.line_read.specs.Told.{told_length, told_label}
use Rattle.line_seven.specs.Seven.{high_for}
use Rattle.correct_offer.specs.declared.OneLine.{OneLine}
use Rattle.correct_offer.specs.declared.Declined.{Declined}
use Rattle.correct_offer.specs.declared.Terms.{Terms}
use Rattle.correct_offer.specs.declared.Objection.{Objection}
use Rattle.correct_offer.specs.declared.Objection.TheVariants.{FixedLine, BadByte, BadContent, HighByte}

-- ---- one line

abbrev pub one_line : ℕ → ℕ → ℕ → OneLine
one_line l at n = record { label = l; at = at; size = n }

-- no line
abbrev pub no_line : OneLine
no_line = one_line 0 0 0

-- the line after k lines from offset `at` on, by the lengths that these give
unfoldable pub line_from : List ℕ → ℕ → ℕ → OneLine
line_from s at zero = one_line (told_label s at) at (told_length s at + (line_lead + line_end))
line_from s at (suc k) = let n = told_length s at in cond (eqb n 0) no_line (line_from s (at + (n + (line_lead + line_end))) k)

unfoldable pub line_after : List ℕ → ℕ → OneLine
line_after s k = line_from s 0 k

-- ---- the terms

-- seven bits have to be asked for: a byte of b is over 7Fh, and the set s holds 9206 with content 1
unfoldable pub asks_seven : List ℕ → List ℕ → Bool
asks_seven s b = not (leb (length b) (high_for s b))

-- the terms of the set s of this shape, for new contents that lie in b
abbrev pub terms_of : List ℕ → Shape → List ℕ → Terms
terms_of s x b = record { length = x.length; lines = x.lines; seven = asks_seven s b }

-- ---- what speaks against a content, and a line that would take it: the number of the refusal (0: nothing), for 6 and 24 which byte of the content, for 20 and 14 the line's label,
-- and the line; for 19 none, after all lines

pub record Offer : Type 0 where
  pub no : ℕ
  pub byte : ℕ
  pub label : ℕ
  pub line : OneLine

abbrev pub against : ℕ → ℕ → ℕ → OneLine → Offer
against n i l x = record { no = n; byte = i; label = l; line = x }

-- after all lines of a set of n bytes
abbrev pub after_all : ℕ → OneLine
after_all n = one_line 0 n 0

-- a content for a line that is there: 20, 6, 14
unfoldable pub offered_to : OneLine → List ℕ → Offer
offered_to x c =
    let low = first_low c 0 (length c) in
    cond (fixed x.label) (against fixed_line 0 x.label x)
    (cond (leb (length c) low) (cond (fits_label x.label c) (against 0 0 0 x) (against bad_content 0 x.label x)) (against bad_byte low 0 x))

-- a content for line number n of a set of this many bytes and lines: 19 first
unfoldable pub offered_at : List ℕ → ℕ → ℕ → ℕ → List ℕ → Offer
offered_at s bytes lines n c = cond (leb 1 n && leb n lines) (offered_to (line_after s (pred n)) c) (against no_such_line 0 0 (after_all bytes))

-- 24, if nothing else speaks against the content and seven bits have to be asked for
unfoldable pub offered_high : Offer → List ℕ → Bool → Offer
offered_high o c seven =
    let high = first_high c 0 (length c) in
    cond (eqb o.no 0) (cond seven (cond (leb (length c) high) o (against high_byte high 0 o.line)) o) o

-- a content for line number n of a set with these terms
unfoldable pub offered : List ℕ → Terms → ℕ → List ℕ → Offer
offered s t n c = offered_high (offered_at s t.length t.lines n c) c t.seven

-- ---- a content for a line with label l, whichever line it is

-- 24, if nothing else speaks against the content
unfoldable pub objected_high : List ℕ → Bool → Option Objection
objected_high c seven = cond seven (cond (leb (length c) (first_high c 0 (length c))) None (Some HighByte)) None

-- 20, 6, 14, 24
unfoldable pub objected : ℕ → List ℕ → Bool → Option Objection
objected l c seven =
    cond (fixed l) (Some FixedLine)
    (cond (leb (length c) (first_low c 0 (length c))) (cond (fits_label l c) (objected_high c seven) (Some BadContent)) (Some BadByte))

-- its number
abbrev pub number_by : Objection → ℕ
number_by FixedLine = fixed_line
number_by BadByte = bad_byte
number_by BadContent = bad_content
number_by HighByte = high_byte

-- the refusal: for 6 and 24 which byte, if the content's first one is at `from`, for 20 and 14 the place and the label
abbrev pub refusal_by : Objection → ℕ → List ℕ → ℕ → ℕ → Refusal
refusal_by FixedLine l c at from = refusal fixed_line at l
refusal_by BadByte l c at from = refusal bad_byte (from + first_low c 0 (length c)) 0
refusal_by BadContent l c at from = refusal bad_content at l
refusal_by HighByte l c at from = refusal high_byte (from + first_high c 0 (length c)) 0

-- the same by its number: for 6 and 24 which byte, for any other but 0 the place and the label
unfoldable pub refusal_by_number : ℕ → ℕ → List ℕ → ℕ → ℕ → Refusal
refusal_by_number n l c at from =
    cond (eqb n 0) no_refusal
    (cond (eqb n bad_byte) (refusal bad_byte (from + first_low c 0 (length c)) 0)
    (cond (eqb n high_byte) (refusal high_byte (from + first_high c 0 (length c)) 0) (refusal n at l)))

-- the same as an offer to a line
abbrev pub offer_by : Option Objection → List ℕ → OneLine → Offer
offer_by None c x = against 0 0 0 x
offer_by (Some FixedLine) c x = against fixed_line 0 x.label x
offer_by (Some BadByte) c x = against bad_byte (first_low c 0 (length c)) 0 x
offer_by (Some BadContent) c x = against bad_content 0 x.label x
offer_by (Some HighByte) c x = against high_byte (first_high c 0 (length c)) 0 x

-- ---- the answer

-- for 6 and 24 the byte of the content, else where the line stands
abbrev pub offer_place : Offer → ℕ
offer_place o = cond (tells_byte o.no) o.byte o.line.at

-- why it is declined, and the line concerned
abbrev pub declined : Offer → Declined
declined o = record { refusal = refusal o.no (offer_place o) o.label; line = o.line }

-- 19, of a set of n bytes
abbrev pub beyond : ℕ → Declined
beyond n = record { refusal = refusal no_such_line n 0; line = after_all n }

-- the line, if nothing speaks against the content
abbrev pub answered : Offer → Result OneLine Declined
answered o = cond (eqb o.no 0) (Ok o.line) (Err (declined o))

-- ---- the fault that an offer stands for

-- how many lines stand before the line concerned: for 19 all of them
abbrev pub offer_line : Offer → ℕ → ℕ → ℕ
offer_line o lines n = cond (eqb o.no no_such_line) lines (pred n)

-- where in that line: for 6 and 24 the byte of its content
abbrev pub offer_spot : Offer → Spot
offer_spot o = cond (tells_byte o.no) (byte o.byte) start

-- the fault of an offer for line number n of a set of this many lines, or none
unfoldable pub offer_faults : Offer → ℕ → ℕ → List Fault
offer_faults o lines n =
    cond (eqb o.no 0) [] (record { no = o.no; line = offer_line o lines n; spot = offer_spot o; label = o.label } ∷ [])
