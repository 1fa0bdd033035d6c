-- Laws of one line's step, for the proofs of `step_at` and its parts: what each `return` has to show.
use mathlib.Core.Path.{◌≡◌, refl, sym, ap, ◌∙◌}
use mathlib.Core.Bool.{Bool, true, false, cond, not, ◌&&◌}
use mathlib.Core.List.{List}
use Prim.Native.Nat.{ℕ, zero, suc, ◌+◌, ◌-◌, ◌%◌, ◌≤◌}
use native.Mathlib.Omega.{arith}
use lib.Dec.{eqb}
use lib.ListN.{length, drop, length-drop}
use lib.Seq.{length-take-le}
use borrow.Author.Tests.{le-leb, ne_eqb, eqb-true, eqb-false, eq-eqb}
use Rattle.std.specs.Prelude.{Ok, Err}
use Rattle.meaning.specs.declared.FieldRow.{FieldRow}
use Rattle.meaning.specs.declared.Kind.TheVariants.{Alnum, Version}
use Rattle.meaning.specs.declared.Row.{Row}
use Rattle.meaning.specs.declared.SetType.{SetType}
use Rattle.meaning.specs.Refusals.{not_in_set, bad_content}
use Rattle.meaning.specs.Tables.{set_level, rows6300, rows6301, rows6302, rows6310, rows6311, table, is_pair_label, row_label}
use Rattle.meaning.specs.Kinds.{is_alnum, of_kind}
use Rattle.meaning.specs.FieldTable.{field_table, field_row_in, field_row, fits_label}
use Rattle.meaning.specs.Groups.{names_row}
use Rattle.meaning.proofs.RowLaws.{all_rows}
use Rattle.table_kinds.specs.Fitting.{length_fits}
use Rattle.table_kinds.proofs.FittingLaws.{fits_not, fits-kind}
use Rattle.table_find.specs.LookUp.{Found, At, NoRow, find_from}
use Rattle.table_find.specs.declared.TableRow.{TableRow}
use Rattle.table_find.proofs.FindLaws.{table-all, found-row, found-passes}
use Rattle.table_find.proofs.TableRowLaws.{Answered}
use Rattle.judge_missing.specs.declared.State.{State}
use Rattle.judge_missing.specs.Lacks.{Flagged, flagged_of, told}
use Rattle.judge_line.specs.Steps.{row_of, refused_by, place_no, label_no, version_no, fit_no, content_no, between, line_no, next_flagged, stays_in, IsOpened, IsJoined, Stepped}

-- ---- names and their odd labels

-- the code asks for the name before a label, the definition for the label after a name
pub after-name : (h l : ℕ) → 1 ≤ l → eqb (h + 1) l ≡ eqb h (l - 1)
after-name h l p = go (eqb h (l - 1)) refl
  where
    go : (b : Bool) → eqb h (l - 1) ≡ b → eqb (h + 1) l ≡ b
    go true e = let q : h ≡ l - 1 = eqb-true h (l - 1) e in eq-eqb (h + 1) l (omega arith)
    go false e = ne_eqb (h + 1) l (λ q. eqb-false h (l - 1) e (omega arith))

-- ---- the row that a look-up answers

-- the row of a label, by its number
pub row_at : {settype : SetType} {l i : ℕ} {x : TableRow} (h : Answered settype l x) → i ≡ x.number → row_of settype l ≡ At i h.row
row_at h e = h.is ∙ ap (λ (k : ℕ). At k h.row) (sym e)

-- ---- a member's row

-- a row that is a member's and a name's or an odd label's, and a row under 6330
abbrev pair_member : Row → Bool
pair_member r = not (eqb r.under set_level) && is_pair_label r.label

abbrev under_name : Row → Bool
under_name r = eqb r.under names_row

-- they are the same rows, in every table
abbrev pair_test : Row → Bool
pair_test r = cond (pair_member r) (under_name r) (not (under_name r))

pairs-test : (settype : SetType) → all_rows pair_test (table settype) ≡ true
unfolding rows6300 rows6301 rows6302 rows6310 rows6311
pairs-test = table-all (λ rs. all_rows pair_test rs ≡ true) refl refl refl refl refl

found-pair : (settype : SetType) (l i : ℕ) (r : Row) → find_from (table settype) l ≡ At i r → pair_member r ≡ under_name r
found-pair settype l i r e = go (pair_member r) (under_name r) (found-passes (table settype) l i r e pair_test (pairs-test settype))
  where
    go : (a b : Bool) → cond a b (not b) ≡ true → a ≡ b
    go true b q = sym q
    go false true q = q
    go false false q = refl

-- the row of a label is a name's or an odd label's if the label is one
pair_row : (l : ℕ) → is_pair_label (row_label l) ≡ is_pair_label l
unfolding row_label
pair_row l = go (is_pair_label l) refl
  where
    go : (b : Bool) → is_pair_label l ≡ b → is_pair_label (cond b (6330 + l % 2) l) ≡ b
    go true e = rw (le-leb 6330 (6330 + l % 2) (omega arith), le-leb (6330 + l % 2) 6399 (omega arith))
    go false e = e

-- so a member is the odd label of a pair exactly if its row stands under 6330
pub member-pair : {settype : SetType} {l : ℕ} {x : TableRow} (h : Answered settype l x) → (x.under ≡ 0 → ⊥) → is_pair_label l ≡ eqb x.under names_row
member-pair {settype} {l} {x} h n =
    let p : pair_member h.row ≡ under_name h.row = found-pair settype (row_label l) x.number h.row h.is in
    let m : is_pair_label h.row.label ≡ is_pair_label l = ap is_pair_label (found-row (table settype) (row_label l) x.number h.row h.is) ∙ pair_row l in
    sym m ∙ (sym (ap (λ (b : Bool). not b && is_pair_label h.row.label) (ne_eqb h.row.under 0 (λ z. n (sym h.under-so ∙ z)))) ∙ p) ∙ ap (λ (u : ℕ). eqb u names_row) h.under-so

-- ---- 14 and 15 by the field of a label

-- the version has a kind of its own
version-kind : (field : FieldRow) (l : ℕ) → field ≡ field_row l → field.kind ≡ Alnum → l ≡ 9218 → ⊥
unfolding field_row field_row_in field_table row_label
version-kind field l e z v =
    let w : field.kind ≡ Version = ap (λ (x : FieldRow). x.kind) (e ∙ ap field_row v) in
    let y : Alnum ≡ Version = sym z ∙ w in
    absurd cc

-- the content between two offsets of some bytes
module _ (field : FieldRow) (l : ℕ) (s : List ℕ) (from end : ℕ) (h : from ≤ end) (g : end ≤ length s) (e : field ≡ field_row l) where
  abbrev content : List ℕ
  content = between s from end

  same_length : length_fits field (length content) ≡ length_fits field (end - from)
  same_length = ap (length_fits field) (length-take-le (end - from) (drop from s) (omega (arith, length-drop from s)))

  pub content-short : length_fits field (end - from) ≡ false → bad_content ≡ content_no l content
  unfolding content_no
  content-short f = rw (fits_not field l content e (same_length ∙ f))

  module _ (f : length_fits field (end - from) ≡ true) where
    by_kind : fits_label l content ≡ of_kind field.kind content
    by_kind = fits-kind field l content e (same_length ∙ f)

    pub content-any : field.kind ≡ Alnum → 0 ≡ content_no l content
    unfolding content_no version_no of_kind is_alnum
    content-any z =
        let t : of_kind field.kind content ≡ true = rw z in
        rw (by_kind ∙ t, ne_eqb l 9218 (version-kind field l e z))

    pub content-fits : fit_no field.kind l content ≡ content_no l content
    unfolding content_no fit_no
    content-fits = rw by_kind

-- ---- what is open after a set-level line

-- its header is the line's label
pub opened-is : {header l place : ℕ} {members top : List Bool} → header ≡ l
    → ◌≡◌ {A = Flagged} (record { header = header; place = place; members = members; top = top }) (record { header = l; place = place; members = members; top = top })
opened-is {place = place} {members = members} {top = top} e = λ j. record { header = e j; place = place; members = members; top = top }

-- ---- a number and its answer

-- the number is not 0, or it is
pub refused-err : (m n : ℕ) → Err n ≡ refused_by m → (m ≡ n) × (m ≡ 0 → ⊥)
refused-err zero n e = absurd cc
refused-err (suc m) n e = (cc, λ z. omega arith)

pub refused-ok : (m : ℕ) → Ok tt ≡ refused_by m → m ≡ 0
refused-ok zero e = refl
refused-ok (suc m) e = absurd cc

-- ---- one line

-- the number of a line that is in its place
placed-number : (o : Found) (st : Flagged) (l : ℕ) (c : List ℕ) (i : ℕ) (row : Row)
    → o ≡ At i row → place_no i row st.header st.members st.top l ≡ 0 → line_no o st l c ≡ content_no l c
unfolding line_no label_no
placed-number o st l c i row q e =
    ap (λ (x : Found). line_no x st l c) q ∙ ap (λ (x : ℕ). cond (eqb x 0) (content_no l c) x) e

module _ {o : Found} {settype : SetType} {x : State} {at l : ℕ} {c : List ℕ} where
  -- a line that is refused
  stopped : {n : ℕ} {y : State} → Err n ≡ refused_by (line_no o (flagged_of x) l c) → Stepped o settype x at l c (Err n) y
  stopped e = record { number = e; flagged-so = λ z. absurd cc; lack-so = λ z. absurd cc }

  pub step-unknown : {y : State} → o ≡ NoRow → Stepped o settype x at l c (Err not_in_set) y
  unfolding line_no label_no
  step-unknown q = stopped (ap (λ (w : Found). refused_by (line_no w (flagged_of x) l c)) (sym q))

  module _ (i : ℕ) (row : Row) (q : o ≡ At i row) where
    pub step-misplaced : {n : ℕ} → Err n ≡ refused_by (place_no i row x.header x.members x.top l) → Stepped o settype x at l c (Err n) x
    unfolding line_no label_no
    step-misplaced e =
        let m = refused-err _ _ e in
        let w : line_no (At i row) (flagged_of x) l c ≡ place_no i row x.header x.members x.top l = rw (ne_eqb (place_no i row x.header x.members x.top l) 0 m.1) in
        stopped (e ∙ ap refused_by (sym w ∙ ap (λ (f : Found). line_no f (flagged_of x) l c) (sym q)))

    module _ (p : Ok tt ≡ refused_by (place_no i row x.header x.members x.top l)) where
      pub step-unfit : {n : ℕ} → Err n ≡ refused_by (content_no l c) → Stepped o settype x at l c (Err n) x
      step-unfit e = stopped (e ∙ ap refused_by (sym (placed-number o (flagged_of x) l c i row q (refused-ok _ p))))

      module _ {y : State} (u : Ok tt ≡ refused_by (content_no l c)) where
        pub step-opened : row.under ≡ 0 → IsOpened settype at l i x y → Stepped o settype x at l c (Ok tt) y
        unfolding next_flagged stays_in
        step-opened v h = record {
          number = u ∙ ap refused_by (sym (placed-number o (flagged_of x) l c i row q (refused-ok _ p)));
          flagged-so = λ z. h.0 ∙ rw (q, v);
          lack-so = λ z. h.1 ∙ rw (q, v);
        }

        pub step-joined : {under : ℕ} → row.under ≡ under → (under ≡ 0 → ⊥) → is_pair_label l ≡ eqb under names_row → IsJoined under i x y
            → Stepped o settype x at l c (Ok tt) y
        unfolding next_flagged stays_in
        step-joined {under} v n pair h =
            let w : eqb row.under 0 ≡ false = ne_eqb row.under 0 (λ z. n (sym v ∙ z)) in
            record {
              number = u ∙ ap refused_by (sym (placed-number o (flagged_of x) l c i row q (refused-ok _ p)));
              flagged-so = λ z. h.0 ∙ rw (q, w, pair);
              lack-so = λ z. ap told h.1 ∙ rw (q, w);
            }
