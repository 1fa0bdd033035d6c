-- The walks of `ends_at` and `scan_from`, and that of a whole set: its lines, over the bytes and an offset.
-- What they mean is `ends_is` and `scan-is` in proofs/ScanMeaning.
use Rattle.std.specs.Prelude.{Bool, false, cond, ◌&&◌, ◌||◌, ◌≡◌, List, ℕ, zero, suc, ◌+◌, ◌-◌, ◌<◌, length, get_or, leb, eqb, Result, Ok, Err}
use Rattle.meaning.specs.declared.Refusal.{Refusal}
use Rattle.line_scan.specs.declared.Scan.{Scan}
use Rattle.meaning.specs.Limits.{max_lines}
use Rattle.meaning.specs.Digits.{digit_zero}
use Rattle.meaning.specs.Refusals.{refusal, empty, too_many_lines}
use Rattle.meaning.specs.Lines.{length_digits, line_lead}
use Rattle.line_read.specs.Line.{line_at, LineRead, a_line}
use Rattle.line_read.specs.Told.{three_bytes, three_zeros, four_bytes, four_zeros}

-- what scanning the lines of a set finds: how many bytes and lines the set has, all of which keep their rules, or the first rule that is broken
abbrev pub Scanned : Type 0
Scanned = Result Scan Refusal

abbrev pub scanned : ℕ → ℕ → Scanned
scanned total lines = Ok (record { length = total; lines = lines })

-- the four bytes at an offset read `8000`
abbrev pub reads8000 : List ℕ → ℕ → Bool
reads8000 s i =
    eqb (get_or s i 0) (digit_zero + 8)
    && (eqb (get_or s (i + 1) 0) digit_zero && (eqb (get_or s (i + 2) 0) digit_zero && eqb (get_or s (i + 3) 0) digit_zero))

-- the set ends before an offset: there is the end of the input, or "seven or more bytes remain and bytes four to seven read `8000`"
unfoldable pub ends_at : List ℕ → ℕ → Bool
ends_at s at = leb (length s) at || (leb line_lead (length s - at) && reads8000 s (at + length_digits))

-- what follows a line that is read, by its size; else its refusal
abbrev pub scan_after : LineRead → (ℕ → Scanned) → Scanned
scan_after (Ok line) f = f line.size
scan_after (Err r) f = Err r

-- the lines from an offset on, with n lines before them; 7 if more than k start
unfoldable pub scan_from : List ℕ → ℕ → ℕ → ℕ → Scanned
scan_from s at n zero = cond (ends_at s at) (scanned at n) (Err (refusal too_many_lines at 0))
scan_from s at n (suc k) = cond (ends_at s at) (scanned at n) (scan_after (line_at s at) (λ size. scan_from s (at + size) (n + 1) k))

-- the lines of the set at the front: 1, the first line whatever its label is, then at most 511 more
unfoldable pub scan_set : List ℕ → Scanned
scan_set s = cond (eqb (length s) 0) (Err (refusal empty 0 0)) (scan_after (line_at s 0) (λ size. scan_from s size 1 (max_lines - 1)))

-- a line of the set that is read stands at an offset that has k lines before it: what it says in its first seven bytes is its label and its length
pub record GoesOn (s : List ℕ) (at k : ℕ) : Type 0 where
  pub few : k < max_lines
  pub no_end : ends_at s at ≡ false
  pub line-so : line_at s at ≡ a_line (four_bytes s (at + length_digits) - four_zeros) (three_bytes s at - three_zeros)
