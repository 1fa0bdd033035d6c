-- 11 to 16, and 24, as the code walks them over the lines of a set: over offsets, with the rows that were seen as flags. proofs/PassLaws ties them to the rules of `meaning`.
use Rattle.std.specs.Prelude.{true, cond, ◌≡◌, List, ℕ, zero, suc, ◌+◌, ◌≤◌, eqb, take, Result, Ok, Err, Some}
use Rattle.meaning.specs.declared.Refusal.{Refusal}
use Rattle.meaning.specs.declared.SetType.{SetType}
use Rattle.meaning.specs.Refusals.{refusal}
use Rattle.meaning.specs.FieldTable.{fits_label}
use Rattle.meaning.specs.Rules.{type_named}
use Rattle.meaning.specs.Answers.{no_refusal}
use Rattle.line_read.specs.Line.{line_at, line_content, sum_line, LineRead, a_line}
use Rattle.line_scan.specs.Scan.{scan_set, scanned}
use Rattle.line_seven.specs.Seven.{high_in_set}
use Rattle.judge_missing.specs.Lacks.{Flagged, none_seen, finish_then}
use Rattle.judge_line.specs.Steps.{row_of, line_no, next_flagged, stays_in, lack_then}

-- ---- the pass

-- what a line that is read comes to, else its refusal
abbrev pub after_line : LineRead → (ℕ → ℕ → Refusal) → Refusal
after_line (Ok line) f = f line.label line.size
after_line (Err r) f = r

-- the n lines from a line start on: 11 to 15 of each, and after the last 16 and 24, in the bytes up to there
unfoldable pub pass_from : List ℕ → SetType → ℕ → Flagged → Refusal → ℕ → Refusal
pass_from s settype at st lack zero = finish_then settype st lack (high_in_set (take at s))
pass_from s settype at st lack (suc n) =
    after_line (line_at s at) (λ l m.
    let rest = pass_from s settype (at + m) (next_flagged (row_of settype l) st at l) (lack_then (stays_in (row_of settype l)) settype st lack) n in
    cond (eqb (line_no (row_of settype l) st l (line_content s at m)) 0) rest (refusal (line_no (row_of settype l) st l (line_content s at m)) at l))

-- all lines of a set
abbrev pub pass_set : List ℕ → SetType → ℕ → Refusal
pass_set s settype lines = pass_from s settype 0 none_seen no_refusal lines

-- how the code answers a refusal whose number is 0 if there is none
abbrev pub answered : Refusal → Result Unit Refusal
answered r = cond (eqb r.no 0) (Ok tt) (Err r)

-- ---- where the loop starts

-- lines 1 and 2 of a set that was read and has this many lines: line 1 names this type, and line 2, which stands at `at`, is an 8100 with a sum
pub record Started (s : List ℕ) (settype : SetType) (at lines : ℕ) : Type 0 where
  pub first_so : line_at s 0 ≡ a_line 8000 at
  pub named : type_named (line_content s 0 at) ≡ Some settype
  pub second_so : line_at s at ≡ a_line 8100 sum_line
  pub fits-so : fits_label 8100 (line_content s at sum_line) ≡ true
  pub both : 2 ≤ lines
  pub total : ℕ
  pub scanned : scan_set s ≡ scanned total lines
