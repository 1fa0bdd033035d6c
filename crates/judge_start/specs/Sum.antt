-- The sum of line 2, and 17, as the code walks them, at the offset of line 2. `sum_is` in `judge` ties 17 to the meaning, `sum-fitting` in proofs/TypeAndSumLaws says that 14 asks for a sum.
use Rattle.std.specs.Prelude.{Bool, true, false, cond, List, ℕ, ◌+◌, eqb, None, Some}
use Rattle.meaning.specs.declared.Refusal.{Refusal}
use Rattle.meaning.specs.Refusals.{refusal, bad_sum}
use Rattle.meaning.specs.Lines.{line_lead}
use Rattle.meaning.specs.Lists.{sum_digits}
use Rattle.meaning.specs.Answers.{no_refusal}
use Rattle.line_read.specs.Number.{number_at, Number}
use Rattle.line_read.specs.Line.{sum_line}

-- what line 2 writes, which stands at `at` and has n bytes: five digits
unfoldable pub sum_written : List ℕ → ℕ → ℕ → Number
sum_written s at n = cond (eqb n sum_line) (number_at s (at + line_lead) sum_digits) None

-- it writes a sum
abbrev pub is_sum : Number → Bool
is_sum (Some n) = true
is_sum None = false

-- five digits that write the set's length
abbrev pub sum_is : Number → ℕ → Bool
sum_is (Some n) total = eqb n total
sum_is None total = false

-- 17, if line 2 stands at `at` and its content fits
unfoldable pub sum_walk : List ℕ → ℕ → ℕ → Refusal
sum_walk s at total = cond (sum_is (number_at s (at + line_lead) sum_digits) total) no_refusal (refusal bad_sum at 0)
