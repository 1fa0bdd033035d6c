-- Line 1 and line 2 of a set: their rows in every table, that a line 8000 that names a type is never refused as line 1, and that only 14 may refuse an 8100 as line 2.
use mathlib.Core.Path.{◌≡◌, refl, sym, subst}
use mathlib.Core.Bool.{Bool, true, false, cond, ◌&&◌}
use mathlib.Core.List.{List}
use Prim.Native.Nat.{ℕ}
use native.Mathlib.Omega.{arith}
use lib.Dec.{leb, eqb}
use lib.ListN.{length, set}
use borrow.Author.Tests.{eqb-true}
use Rattle.std.specs.Prelude.{None, Ok, Err, Some}
use Rattle.meaning.specs.declared.SetType.{SetType}
use Rattle.meaning.specs.declared.SetType.TheVariants.{T6300, T6301, T6302, T6310, T6311}
use Rattle.meaning.specs.Limits.{type_of}
use Rattle.meaning.specs.Digits.{number, all_digits}
use Rattle.meaning.specs.Kinds.{is_alnum, of_kind}
use Rattle.meaning.specs.Tables.{set_level, single, M, row, rows6300, rows6301, rows6302, rows6310, rows6311, table, row_label}
use Rattle.meaning.specs.FieldTable.{field_table, field_row_in, field_row, has_length, fits_row, fits_label}
use Rattle.meaning.specs.Refusals.{bad_content}
use Rattle.meaning.specs.Rules.{type_named, type_digits}
use Rattle.meaning.specs.Answers.{no_refusal, or_else}
use Rattle.table_fields.specs.LabelNumbers.{label_number, rows_before}
use Rattle.table_find.specs.LookUp.{Found, At, find_from}
use Rattle.judge_missing.specs.declared.State.{State}
use Rattle.judge_missing.specs.Lacks.{no_flags, seen, lack_under, group_lack, open_lack, first_lack, before_lines}
use Rattle.judge_line.specs.Steps.{row_of, repeated_no, place_no, label_no, version_no, content_no, line_no, next_flagged, stays_in, Stepped}

-- the numbers and the rows of 8000 and 8100 in every table
pub row-8000 : (settype : SetType) → row_of settype 8000 ≡ At 31 (row 8000 set_level single M)
unfolding table rows6300 rows6301 rows6302 rows6310 rows6311 row_label find_from label_number rows_before field_table
row-8000 T6300 = refl
row-8000 T6301 = refl
row-8000 T6302 = refl
row-8000 T6310 = refl
row-8000 T6311 = refl

pub row-8100 : (settype : SetType) → row_of settype 8100 ≡ At 32 (row 8100 set_level single M)
unfolding table rows6300 rows6301 rows6302 rows6310 rows6311 row_label find_from label_number rows_before field_table
row-8100 T6300 = refl
row-8100 T6301 = refl
row-8100 T6302 = refl
row-8100 T6310 = refl
row-8100 T6311 = refl

-- a content that names a type fits 8000
type-fits : (c : List ℕ) (settype : SetType) → type_named c ≡ Some settype → fits_label 8000 c ≡ true
unfolding type_named fits_label fits_row field_row field_row_in field_table row_label has_length of_kind is_alnum
type-fits c settype q = go (eqb (length c) type_digits) refl q
  where
    go : (b : Bool) → eqb (length c) type_digits ≡ b → cond (b && all_digits c) (type_of (number c)) None ≡ Some settype → (leb 4 (length c) && leb (length c) 4) && true ≡ true
    go true e z = rw (eqb-true (length c) type_digits e)
    go false e z = let y : ◌≡◌ {A = ℕ} 0 1 = cc in absurd (omega arith)

-- what is open and seen after line 1
abbrev pub start_state : State
start_state = record { header = 8000; place = 0; lack = None; members = no_flags; top = set no_flags 31 true }

-- the step of line 1: a line 8000 that names a type is never refused
pub start-step : (settype : SetType) (c : List ℕ) → type_named c ≡ Some settype → Stepped (row_of settype 8000) settype before_lines 0 8000 c (Ok tt) start_state
unfolding line_no label_no place_no repeated_no content_no version_no next_flagged stays_in first_lack open_lack or_else
start-step settype c q =
    subst (λ (o : Found). Stepped o settype before_lines 0 8000 c (Ok tt) start_state) (sym (row-8000 settype))
    (record { number = rw (type-fits c settype q); flagged-so = λ z. refl; lack-so = λ z. refl })

-- what is open and seen after line 2, which stands at `at`
abbrev pub second_state : ℕ → State
second_state at = record { header = 8100; place = at; lack = None; members = no_flags; top = set (set no_flags 31 true) 32 true }

-- no group is open between them
no-group : (settype : SetType) → group_lack settype (seen no_flags) 8000 0 ≡ no_refusal
unfolding group_lack lack_under row_label
no-group T6300 = refl
no-group T6301 = refl
no-group T6302 = refl
no-group T6310 = refl
no-group T6311 = refl

-- the step of line 2: it is refused only by 14
module _ (settype : SetType) (at : ℕ) (c : List ℕ) where
  pub second-step : fits_label 8100 c ≡ true → Stepped (row_of settype 8100) settype start_state at 8100 c (Ok tt) (second_state at)
  unfolding line_no label_no place_no repeated_no content_no version_no next_flagged stays_in first_lack open_lack or_else
  second-step e =
      subst (λ (o : Found). Stepped o settype start_state at 8100 c (Ok tt) (second_state at)) (sym (row-8100 settype))
      (record { number = rw e; flagged-so = λ z. refl; lack-so = λ z. sym (no-group settype) })

  pub second-unfit : fits_label 8100 c ≡ false → Stepped (row_of settype 8100) settype start_state at 8100 c (Err bad_content) start_state
  unfolding line_no label_no place_no repeated_no content_no
  second-unfit e =
      subst (λ (o : Found). Stepped o settype start_state at 8100 c (Err bad_content) start_state) (sym (row-8100 settype))
      (record { number = rw e; flagged-so = λ z. absurd cc; lack-so = λ z. absurd cc })
