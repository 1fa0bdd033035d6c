-- The rules as the code walks them, around the pass over the lines: 8, 9, 10, the pass (11 to 16 and 24), 17. proofs/JudgeLaws ties them to the rules of `meaning`.
use Rattle.std.specs.Prelude.{cond, List, ℕ, leb, eqb, Err, None, Ok, Some}
use Rattle.meaning.specs.declared.Refusal.{Refusal}
use Rattle.meaning.specs.declared.SetType.{SetType}
use Rattle.meaning.specs.Limits.{type_number}
use Rattle.meaning.specs.Refusals.{refusal, no_start, unknown_set, no_sum}
use Rattle.meaning.specs.Rules.{type_named}
use Rattle.meaning.specs.Answers.{or_else}
use Rattle.line_read.specs.Line.{line_at, line_content, LineRead, a_line}
use Rattle.line_scan.specs.Scan.{scan_set, Scanned, scanned}
use Rattle.judge_start.specs.Sum.{sum_walk}
use Rattle.judge_lines.specs.Pass.{after_line, pass_set}
use Rattle.meaning.specs.Results.{Judged, Known}

-- 11 to 16, 24 and 17, if line 2 is 8100 and stands at `at`: 17 is asked only if the pass found nothing
abbrev pub ruled_walk : List ℕ → SetType → ℕ → ℕ → ℕ → Refusal
ruled_walk s settype at total lines = or_else (pass_set s settype lines) (sum_walk s at total)

-- 10 to 17 and 24, if line 2 has this label
unfoldable pub second_by : List ℕ → SetType → ℕ → ℕ → ℕ → ℕ → Refusal
second_by s settype at total lines l = cond (eqb l 8100) (ruled_walk s settype at total lines) (refusal no_sum at 0)

-- 10 to 17 and 24, if line 1 ends at `at`
unfoldable pub second_walk : List ℕ → SetType → ℕ → ℕ → ℕ → Refusal
second_walk s settype at total lines = cond (leb 2 lines) (after_line (line_at s at) (λ l n. second_by s settype at total lines l)) (refusal no_sum at 0)

-- accepted if nothing is refused
unfoldable pub as_judged : Refusal → SetType → ℕ → ℕ → Judged
as_judged r settype total lines = cond (eqb r.no 0) (Ok (record { length = total; lines = lines; settype = type_number settype })) (Err r)

-- 9 to 17 and 24, if line 1 names this type and ends at `at`
abbrev pub typed_by : List ℕ → Known → ℕ → ℕ → ℕ → Judged
typed_by s None at total lines = Err (refusal unknown_set 0 0)
typed_by s (Some settype) at total lines = as_judged (second_walk s settype at total lines) settype total lines

-- 8 to 17 and 24, if line 1 is read
unfoldable pub first_by : List ℕ → ℕ → ℕ → ℕ → ℕ → Judged
first_by s l n total lines = cond (eqb l 8000) (typed_by s (type_named (line_content s 0 n)) n total lines) (Err (refusal no_start 0 0))

-- what a line that is read comes to, else its refusal
abbrev pub judged_line : LineRead → (ℕ → ℕ → Judged) → Judged
judged_line (Ok line) f = f line.label line.size
judged_line (Err r) f = Err r

-- the rules over the lines of a set of `total` bytes
unfoldable pub lines_walk : List ℕ → ℕ → ℕ → Judged
lines_walk s total lines = judged_line (line_at s 0) (λ l n. first_by s l n total lines)

-- what a set that is read comes to, else its refusal
abbrev pub judged_scan : Scanned → (ℕ → ℕ → Judged) → Judged
judged_scan (Ok scan) f = f scan.length scan.lines
judged_scan (Err r) f = Err r

-- 1 to 17 and 24
unfoldable pub judge_walk : List ℕ → Judged
judge_walk s = judged_scan (scan_set s) (λ total lines. lines_walk s total lines)
