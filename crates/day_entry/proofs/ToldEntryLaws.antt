-- What each `return` of the walks has to show; then what they are for an accepted set: its entry.
use mathlib.Core.Path.{◌≡◌, refl, sym, ap, ◌∙◌, subst}
use mathlib.Core.Bool.{Bool, true, false, cond}
use mathlib.Core.List.{List, [], ◌∷◌, cons≢nil}
use Prim.Native.Nat.{ℕ, suc, ◌+◌, ◌-◌, ◌≤◌, ◌<◌}
use native.Mathlib.Omega.{arith}
use lib.Dec.{eqb}
use lib.ListN.{length, take, drop, length-take, length-drop}
use lib.Seq.{take_all}
use borrow.Author.Tests.{le-leb, eqb-true, eqb-false}
use Rattle.meaning.specs.declared.SetType.{SetType}
use Rattle.meaning.specs.declared.SetType.TheVariants.{T6300, T6301, T6302, T6310, T6311}
use Rattle.meaning.specs.Limits.{type_number}
use Rattle.meaning.specs.Digits.{digits, number, all_digits}
use Rattle.meaning.specs.Field.{Field, field, content_at_line}
use Rattle.meaning.specs.Refusals.{done}
use Rattle.meaning.specs.Pieces.{Parsed}
use Rattle.meaning.specs.Lines.{line_lead, size, offset, render}
use Rattle.meaning.specs.Rules.{type_digits, type_named, profile, is_known, fits, start_faults, sum_faults}
use Rattle.meaning.specs.Reading.{known_number, read}
use Rattle.meaning.specs.Lists.{sum_digits, sum_place}
use Rattle.meaning.proofs.FaultLaws.{ask-last}
use Rattle.meaning.proofs.PlaceLaws.{content-at}
use Rattle.meaning.proofs.DigitLaws.{number_digits, digits-all, length-digits}
use Rattle.meaning.proofs.FieldLaws.{sum_fits}
use Rattle.meaning.proofs.TypeLaws.{known-type, type-digits}
use Rattle.meaning.proofs.RuleLaws.{ruled, begins-of}
use Rattle.meaning.proofs.SetLaws.{Standing, Accepted, accepted, second_fits}
use Rattle.line_read.specs.Number.{number_at, Number}
use Rattle.line_find.specs.FirstPlace.{first_place}
use Rattle.line_find.proofs.FirstPlaceLaws.{FirstLine, first-here, first-later, place_is}
use Rattle.line_read.proofs.LineMeaning.{number_is}
use Rattle.meaning_day.specs.Days.{patient_label, lines_before, patient_place, day_entry}
use Rattle.meaning_day.proofs.PatientLaws.{patient-there}
use Rattle.day_entry.specs.ToldEntry.{or_zero, number_in, told_entry}

-- by what the bytes write
pub number-so : (s : List ℕ) (at k : ℕ) (n : Number) → n ≡ number_at s at k → or_zero n ≡ number_in s at k
unfolding number_in
number-so s at k n e = ap or_zero e

-- ---- the three walks over the part of the file from an offset on

pub entry-so : (f : List ℕ) (at : ℕ) (n t p : ℕ) → let s : List ℕ = take (length f - at) (drop at f) in
    n ≡ number_in s sum_place sum_digits → t ≡ number_in s line_lead type_digits → p ≡ first_place s patient_label
    → record { offset = at; length = n; settype = t; place = at + p } ≡ told_entry f at
unfolding told_entry
entry-so f at n t p a b c = rw (a, b, c, take_all (length f - at) (drop at f) (omega (arith, length-drop at f)))

-- ---- an accepted set: its lines

-- the first line with a label is the one that `lines_before` stand before
first-line : (l : ℕ) (fs : List Field) → lines_before l fs < length fs → FirstLine l fs (lines_before l fs)
unfolding lines_before
first-line l [] h = absurd (omega arith)
first-line l (f ∷ fs) h = go (eqb f.label l) refl h (first-line l fs)
  where
    go : (b : Bool) → eqb f.label l ≡ b → cond b 0 (suc (lines_before l fs)) < suc (length fs) → (lines_before l fs < length fs → FirstLine l fs (lines_before l fs))
        → FirstLine l (f ∷ fs) (cond b 0 (suc (lines_before l fs)))
    go true e q ih = first-here l f fs (eqb-true f.label l e)
    go false e q ih = first-later l f fs (lines_before l fs) (eqb-false f.label l e) (ih (omega arith))

-- what the content of a line writes, if it is digits
content-number : (fs : List Field) (t : List ℕ) (k w : ℕ) → k < length fs → length (content_at_line fs k) ≡ w → all_digits (content_at_line fs k) ≡ true → 1 ≤ w → w ≤ 9
    → number_in (render fs t) (offset fs k + line_lead) w ≡ number (content_at_line fs k)
unfolding number_in
content-number fs t k w h e a lo hi =
    let s : List ℕ = render fs t in
    let u : List ℕ = drop (offset fs k + line_lead) s in
    let c : take w u ≡ content_at_line fs k = ap (λ (n : ℕ). take n u) (sym e) ∙ content-at fs k t h in
    let l : w ≤ length u = omega (arith, ap length c, length-take w u) in
    rw (number_is s (offset fs k + line_lead) w lo hi, le-leb w (length u) l, c, a)

-- ---- an accepted set: line 1 and line 2

-- a content that names a type is four digits that write its number
named : (c : List ℕ) → is_known (type_named c) ≡ true → (length c ≡ type_digits) × (all_digits c ≡ true) × (number c ≡ known_number (type_named c))
named c h =
    let k = known-type (type_named c) h in
    let e : c ≡ digits 4 (type_number k.0) = type-digits c k.0 k.1 in (
      ap length e ∙ length-digits 4 (type_number k.0),
      ap all_digits e ∙ digits-all 4 (type_number k.0),
      ap number e ∙ number_digits 4 (type_number k.0) (few k.0) ∙ ap known_number (sym k.1),
    )
  where
    few : (t : SetType) → type_number t < 10000
    few T6300 = omega arith
    few T6301 = omega arith
    few T6302 = omega arith
    few T6310 = omega arith
    few T6311 = omega arith

-- The walks over an accepted set give its entry.
pub entry-told : (f : List ℕ) (at : ℕ) (d : Parsed) → read (drop at f) ≡ done d → told_entry f at ≡ day_entry at d.fields
unfolding told_entry day_entry profile start_faults sum_faults
entry-told f at d e = go d.fields a.standing a.bytes
  where
    a : Accepted (drop at f) d
    a = accepted (drop at f) d e

    go : (fs : List Field) → Standing fs → drop at f ≡ render fs d.rest → told_entry f at ≡ day_entry at fs
    go [] st w = absurd (cons≢nil (ruled [] st.right).0.begins)
    go (x ∷ []) st w = let z : ◌≡◌ {A = ℕ} 0 8100 = (begins-of (x ∷ []) (ruled (x ∷ []) st.right).0.begins).second-label in absurd (omega arith)
    go (x ∷ y ∷ fs) st w =
        let all : List Field = x ∷ y ∷ fs in
        let r = ruled all st.right in
        let b = begins-of all r.0.begins in
        let t = named x.content b.type-known in
        let fit : fits (profile all) (field 8100 y.content) ≡ true =
        subst (λ (l : ℕ). fits (profile all) (field l y.content) ≡ true) b.second-label (second_fits (profile all) x y fs r.0.each-line) in
        let five = sum_fits (profile all) y.content fit in
        let total : number y.content ≡ size all = eqb-true (number y.content) (size all) (ask-last _ _ r.1) in
        let p = patient-there all st.right in
        let second : offset all 1 + line_lead ≡ sum_place = omega (arith, t.0) in
        let at_sum : number_in (render all d.rest) sum_place sum_digits ≡ size all =
        ap (λ (n : ℕ). number_in (render all d.rest) n sum_digits) (sym second)
        ∙ content-number all d.rest 1 sum_digits (omega arith) five.five five.all-digits (omega arith) (omega arith) ∙ total in
        let at-type : number_in (render all d.rest) line_lead type_digits ≡ known_number (type_named x.content) =
        content-number all d.rest 0 type_digits (omega arith) t.0 t.1 (omega arith) (omega arith) ∙ t.2 in
        let at_place : first_place (render all d.rest) patient_label ≡ patient_place all =
        place_is patient_label (omega arith) all d.rest (lines_before patient_label all) st.sound st.few (first-line patient_label all p.0) in
        rw (w, at_sum, at-type, at_place)
