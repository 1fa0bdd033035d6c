-- One set of the file: an entry says what a set at its offset is exactly if that set is accepted there and the entry is the one that is made of it. Its line with label 3000 is the
-- only one. What is refused at an offset is refused for the set's own first breach, placed in the file.
use mathlib.Core.Path.{◌≡◌, refl, sym, ap, ap₂, ◌∙◌, subst}
use mathlib.Core.Bool.{Bool, true, false, true≢false}
use mathlib.Core.List.{List, []}
use mathlib.Core.Logic.{◌↔◌}
use Prim.Native.Nat.{ℕ, ◌+◌, ◌<◌}
use native.Mathlib.Omega.{arith}
use lib.Dec.{eqb}
use lib.ListN.{length, take, drop, length-drop}
use lib.Seq.{drop-drop}
use borrow.Author.Tests.{leb-false, eqb-true, eqb-false}
use Rattle.meaning.specs.declared.Refusal.{Refusal}
use Rattle.meaning.specs.declared.Row.{Row}
use Rattle.meaning.specs.declared.SetType.{SetType}
use Rattle.meaning.specs.declared.SetType.TheVariants.{T6300, T6301, T6302, T6310, T6311}
use Rattle.meaning.specs.Field.{Field, label_at_line}
use Rattle.meaning.specs.Tables.{set_level, single, M, row, rows6300, rows6301, rows6302, rows6310, rows6311, table, row_label, find_in, find}
use Rattle.meaning.specs.Refusals.{Reply, refused, done}
use Rattle.meaning.specs.Pieces.{Parsed, parsed}
use Rattle.meaning.specs.Lines.{line_lead, size, offset, render}
use Rattle.meaning.specs.Rules.{profile}
use Rattle.meaning.specs.Reading.{read, known_number}
use Rattle.meaning.proofs.Bools.{end_is}
use Rattle.meaning.proofs.FaultLaws.{refused-done}
use Rattle.meaning.proofs.LineLaws.{take-render}
use Rattle.meaning.proofs.RowLaws.{some_same}
use Rattle.meaning.proofs.SetLaws.{accepted, read-render}
use Rattle.keeps.specs.Keeps.{HasRow, AtSetLevel, Repeats, KeepsRules}
use Rattle.keeps.proofs.RulesExact.{profile-typed}
use Rattle.keeps.proofs.Exact.{accepted-keeps, keeps-standing, keeps-accepted}
use Rattle.breaches.proofs.CallExact.{refused-same, read-refused}
use Rattle.meaning_day.specs.declared.DayEntry.{DayEntry}
use Rattle.meaning_day.specs.Days.{patient_label, lines_before, day_entry, placed}
use Rattle.meaning_day.proofs.PatientLaws.{patient-there}
use Rattle.meaning_day.proofs.DayLaws.{drop-lines, accepted-starts, starts-some, read_length}
use Rattle.meaning_day.proofs.BuiltLaws.{part_of}
use Rattle.theory_day.specs.DayRules.{SetOf}
use Rattle.theory_day.specs.DayBreaches.{OwnRefusal}

-- ---- the line with label 3000

-- "3000 in all": every table has its row, at set level, single and required
row-3000 : (t : SetType) → HasRow t 3000 (row 3000 set_level single M)
unfolding table rows6300 rows6301 rows6302 rows6310 rows6311 find find_in row_label
row-3000 T6300 = refl
row-3000 T6301 = refl
row-3000 T6302 = refl
row-3000 T6310 = refl
row-3000 T6311 = refl

-- so a set has only one line with it
pub one-patient-line : (t : SetType) (fs : List Field) → KeepsRules t fs
    → (i j : ℕ) → i < length fs → j < length fs → label_at_line fs i ≡ 3000 → label_at_line fs j ≡ 3000 → i ≡ j
one-patient-line t fs k i j a b p q = go (eqb i j) refl
  where
    again : Repeats t 3000 → ⊥
    again x = true≢false (sym x.2 ∙ ap (λ (r : Row). r.many) (some_same (sym x.1 ∙ row-3000 t)))

    go : (c : Bool) → eqb i j ≡ c → i ≡ j
    go true e = eqb-true i j e
    go false e =
        let top : AtSetLevel t (label_at_line fs i) = subst (λ (l : ℕ). AtSetLevel t l) (sym p) (row 3000 set_level single M, row-3000 t, refl) in
        absurd (again (subst (λ (l : ℕ). Repeats t l) p (k.not-repeated-in-set i j a b (eqb-false i j e) (p ∙ sym q) top)))

-- ---- an accepted set that starts at offset `at` of the file

module _ (f : List ℕ) (at : ℕ) (d : Parsed) (e : read (drop at f) ≡ done d) where
  -- it has bytes
  pub starts-within : at < length f
  starts-within = leb-false (length f) at (end_is f at ∙ starts-some (drop at f) (accepted-starts (drop at f) d e))

  -- it ends within the file, and what follows it stands there
  pub ends-within : at + (size d.fields + length d.rest) ≡ length f
  ends-within = omega (arith, starts-within, read_length (drop at f) d e, length-drop at f)

  pub rest-is : d.rest ≡ drop (at + size d.fields) f
  rest-is =
      sym (drop-lines d.fields d.rest) ∙ (ap (drop (size d.fields)) (sym (accepted (drop at f) d e).bytes) ∙ drop-drop (size d.fields) at f)

-- ---- an entry and its set

-- the entry of an accepted set says what the set is
pub set-of : (f : List ℕ) (at : ℕ) (d : Parsed) → read (drop at f) ≡ done d → SetOf f (day_entry at d.fields)
unfolding day_entry
set-of f at d e =
    let k = accepted-keeps (drop at f) d e in
    let there = patient-there d.fields (accepted (drop at f) d e).standing.right in
    record {
      set-type = k.0;
      lines = d.fields;
      rest = d.rest;
      keeps = k.1;
      length-is = refl;
      type-is = ap (λ q. known_number q.set_type) (profile-typed k.0 d.fields k.1.rules.starts.1);
      patient-line = lines_before patient_label d.fields;
      a-line = there.0;
      label-is = there.1;
      place_is = refl;
    }

-- an entry that says what a set at its offset is
module _ (f : List ℕ) (e : DayEntry) (x : SetOf f e) where
  -- that set is accepted there
  pub set-read : read (drop e.offset f) ≡ done (parsed x.lines x.rest)
  set-read = keeps-accepted (drop e.offset f) x.set-type x.lines x.rest x.keeps

  -- its line with label 3000 is the first one, since there is no other
  first-patient-line : lines_before patient_label x.lines ≡ x.patient-line
  first-patient-line =
      let there = patient-there x.lines (keeps-standing (drop e.offset f) x.set-type x.lines x.rest x.keeps).right in
      one-patient-line x.set-type x.lines x.keeps.rules (lines_before patient_label x.lines) x.patient-line there.0 x.a-line there.1 x.label-is

  -- and the entry is the one that is made of it
  pub set-entry : e ≡ day_entry e.offset x.lines
  unfolding day_entry
  set-entry =
      let a : e.settype ≡ known_number (profile x.lines).set_type =
      x.type-is ∙ sym (ap (λ q. known_number q.set_type) (profile-typed x.set-type x.lines x.keeps.rules.starts.1)) in
      let b : e.place ≡ e.offset + (offset x.lines (lines_before patient_label x.lines) + line_lead) =
      x.place_is ∙ ap (λ (i : ℕ). e.offset + (offset x.lines i + line_lead)) (sym first-patient-line) in
      λ i. record { offset = e.offset; length = x.length-is i; settype = a i; place = b i }

  -- the bytes that the entry names are the set by itself
  pub part-read : read (part_of f e) ≡ done (parsed x.lines [])
  part-read =
      let bytes : part_of f e ≡ render x.lines [] =
      ap₂ (λ (n : ℕ) (s : List ℕ). take n s) x.length-is x.keeps.its-bytes ∙ take-render x.lines x.rest in
      ap read bytes ∙ read-render x.lines [] (keeps-standing (drop e.offset f) x.set-type x.lines x.rest x.keeps) refl

-- ---- what is refused at an offset

-- "the set's own, placed in the file"
pub own-refused : (f : List ℕ) (at : ℕ) (r : Refusal) → (placed at (read (drop at f)) ≡ refused r) ↔ OwnRefusal f at r
own-refused f at r = (λ e. to (read (drop at f)) refl e, from)
  where
    to : (y : Reply Parsed) → read (drop at f) ≡ y → placed at y ≡ refused r → OwnRefusal f at r
    to (refused y) q e = record { own = y; breach = (read-refused (drop at f) y).0 q; placed = sym (refused-same e) }
    to (done d) q e = refused-done (sym e)

    from : OwnRefusal f at r → placed at (read (drop at f)) ≡ refused r
    from x = ap (placed at) ((read-refused (drop at f) x.own).1 x.breach) ∙ ap refused (sym x.placed)
