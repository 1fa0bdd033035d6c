-- The walk of the scan step by step: one law for each way that the code takes.
use mathlib.Core.Path.{◌≡◌, refl, sym, ap, ◌∙◌}
use mathlib.Core.Bool.{Bool, true, false}
use mathlib.Core.List.{List}
use Prim.Native.Nat.{ℕ, zero, suc, ◌+◌, ◌-◌, ◌≤◌, ◌<◌}
use native.Mathlib.Omega.{arith}
use lib.ListN.{length}
use lib.Dec.{leb}
use borrow.Author.Tests.{ne_eqb, le-leb, lt-leb}
use Rattle.meaning.specs.declared.Refusal.{Refusal}
use Rattle.meaning.specs.Limits.{max_lines}
use Rattle.meaning.specs.Refusals.{refusal, too_many_lines}
use Rattle.meaning.proofs.LeftLaws.{one-more, none_left}
use Rattle.meaning.specs.Lines.{length_digits, line_lead}
use Rattle.line_read.specs.Line.{line_at, a_line}
use Rattle.line_read.specs.Told.{three_bytes, three_zeros, four_bytes, four_zeros}
use Rattle.line_read.proofs.LineMeaning.{read_back}
use Rattle.line_scan.specs.Scan.{reads8000, ends_at, scan_from, scan_set, GoesOn, scanned}
use Rattle.std.specs.Prelude.{Err}

-- two tests that hold at the same time are one
pub test-same : (a b : Bool) → (a ≡ true → b ≡ true) → (b ≡ true → a ≡ true) → a ≡ b
test-same true b f g = sym (f refl)
test-same false true f g = g refl
test-same false false f g = refl

-- ---- the scan with n lines before it: the set ends, a 513th line starts, the line is refused, the line is read

module _ (s : List ℕ) (at n : ℕ) where
  pub scan-done : (k : ℕ) → ends_at s at ≡ true → scan_from s at n k ≡ scanned at n
  unfolding scan_from
  scan-done zero e = rw e
  scan-done (suc k) e = rw e

  pub scan-full : max_lines ≤ n → ends_at s at ≡ false → scan_from s at n (max_lines - n) ≡ Err (refusal too_many_lines at 0)
  unfolding scan_from
  scan-full h e = rw (none_left h, e)

  module _ (h : n < max_lines) (e : ends_at s at ≡ false) where
    pub scan-bad : {r : Refusal} → line_at s at ≡ Err r → scan_from s at n (max_lines - n) ≡ Err r
    unfolding scan_from
    scan-bad l = rw (one-more h, e, l)

    pub scan-further : {label size : ℕ} → line_at s at ≡ a_line label size → scan_from s at n (max_lines - n) ≡ scan_from s (at + size) (n + 1) (max_lines - (n + 1))
    unfolding scan_from
    scan-further l = rw (one-more h, e, l)

-- a sound line that does not read `8000` is one of the set
pub goes-on : (s : List ℕ) (at k : ℕ) → k < max_lines → line_at s at ≡ a_line (four_bytes s (at + length_digits) - four_zeros) (three_bytes s at - three_zeros)
    → (b : Bool) → b ≡ reads8000 s (at + length_digits) → b ≡ false → GoesOn s at k
unfolding ends_at
goes-on s at k h q b e z =
    let r = read_back s at q in
    let more : leb (length s) at ≡ false = lt-leb (length s) at (omega (arith, r.least, r.within)) in
    let seven : leb line_lead (length s - at) ≡ true = le-leb line_lead (length s - at) (omega (arith, r.least, r.within)) in
    record { few = h; no_end = rw (more, seven, sym e ∙ z); line-so = q }

-- the scan goes on after it, by the length that it says
module _ (s : List ℕ) (at k : ℕ) (g : GoesOn s at k) (n : ℕ) (e : n ≡ three_bytes s at - three_zeros) where
  line-goes : line_at s at ≡ a_line (four_bytes s (at + length_digits) - four_zeros) n
  line-goes = g.line-so ∙ ap (a_line (four_bytes s (at + length_digits) - four_zeros)) (sym e)

  pub goes-within : at + n ≤ length s
  goes-within = (read_back s at line-goes).within

  pub goes_further : scan_from s at k (max_lines - k) ≡ scan_from s (at + n) (k + 1) (max_lines - (k + 1))
  goes_further = scan-further s at k g.few g.no_end line-goes

-- ---- line 1

-- the scan of a set whose line 1 is read
pub scan-first : (s : List ℕ) {l n : ℕ} → line_at s 0 ≡ a_line l n → scan_set s ≡ scan_from s n 1 (max_lines - 1)
unfolding scan_set
scan-first s q =
    let r = read_back s 0 q in
    rw (ne_eqb (length s) 0 (λ z. omega (arith, r.least, r.within)), q)
