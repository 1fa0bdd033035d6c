-- What the walks mean: over an offset they are the definitions of `meaning` over the bytes from there on.
use mathlib.Core.Path.{◌≡◌, refl, sym, ap, ◌∙◌}
use mathlib.Core.Bool.{Bool, true, false, cond, ◌&&◌, ◌||◌}
use mathlib.Core.List.{List, [], ◌∷◌}
use Prim.Native.Nat.{ℕ, zero, suc, ◌+◌, ◌-◌, ◌≤◌}
use native.Mathlib.Omega.{arith}
use native.Mathlib.Nat.{add-zero, zero-add}
use lib.Dec.{leb, eqb}
use lib.ListN.{length, take, drop, length-drop}
use lib.Seq.{get_or-drop, drop-drop}
use borrow.Author.Tests.{leb-true, le-leb, eqb-true, ne_eqb}
use Rattle.meaning.specs.Limits.{max_lines}
use Rattle.meaning.specs.Digits.{digits, all_digits, number}
use Rattle.meaning.specs.Field.{Field, is_nil}
use Rattle.meaning.specs.Refusals.{Fault, Reply, refused, done}
use Rattle.meaning.specs.Pieces.{Parsed, parsed, and_before, piece_then, pieces}
use Rattle.meaning.specs.Lines.{length_digits, label_digits, line_lead, line_size, size, size_at, label_at, field_at, label_ok, line_faults, starts_set, set_over, line_form}
use Rattle.meaning.specs.Reading.{scan}
use Rattle.meaning.proofs.Bools.{and_left, and_right, end_is}
use Rattle.meaning.proofs.DigitLaws.{digits_number}
use Rattle.meaning.proofs.LineLaws.{whole, size_back}
use Rattle.line_read.specs.Number.{number_at}
use Rattle.line_read.specs.Line.{line_at, a_line}
use Rattle.line_read.proofs.LineWalkLaws.{number-within}
use Rattle.line_read.proofs.LineMeaning.{as_number, number_is, line_by_faults, line-is, label-read}
use Rattle.line_scan.specs.Scan.{reads8000, ends_at, scan_after, scan_from, scan_set, Scanned, scanned}
use Rattle.line_scan.proofs.ScanWalkLaws.{test-same}
use Rattle.std.specs.Prelude.{Ok, Err, Some}

-- ---- where a set ends

-- four bytes are `8000` (56, 48, 48, 48) if they are digits that write 8000
reads-is : (t : List ℕ) → label_digits ≤ length t → reads8000 t 0 ≡ all_digits (take label_digits t) && eqb (number (take label_digits t)) 8000
reads-is [] h = absurd (omega arith)
reads-is (a ∷ []) h = absurd (omega arith)
reads-is (a ∷ b ∷ []) h = absurd (omega arith)
reads-is (a ∷ b ∷ c ∷ []) h = absurd (omega arith)
reads-is (a ∷ b ∷ c ∷ e ∷ t) h = test-same _ _ to from
  where
    bytes : List ℕ
    bytes = a ∷ b ∷ c ∷ e ∷ []

    to : reads8000 bytes 0 ≡ true → all_digits bytes && eqb (number bytes) 8000 ≡ true
    to h =
        let a' : a ≡ 56 = eqb-true a 56 (and_left (eqb a 56) _ h) in
        let p = and_right (eqb a 56) _ h in
        let b' : b ≡ 48 = eqb-true b 48 (and_left (eqb b 48) _ p) in
        let q = and_right (eqb b 48) _ p in
        let c' : c ≡ 48 = eqb-true c 48 (and_left (eqb c 48) _ q) in
        let e' : e ≡ 48 = eqb-true e 48 (and_right (eqb c 48) _ q) in
        rw (a', b', c', e')

    from : all_digits bytes && eqb (number bytes) 8000 ≡ true → reads8000 bytes 0 ≡ true
    from h =
        let n : number bytes ≡ 8000 = eqb-true (number bytes) 8000 (and_right (all_digits bytes) _ h) in
        let l : bytes ≡ digits label_digits 8000 = sym (digits_number bytes (and_left (all_digits bytes) _ h)) ∙ ap (digits label_digits) n in
        ap (λ (u : List ℕ). reads8000 u 0) l

reads_at : (s : List ℕ) (i : ℕ) → reads8000 s i ≡ reads8000 (drop i s) 0
reads_at s i = rw (get_or-drop i s 0 0, get_or-drop i s 1 0, get_or-drop i s 2 0, get_or-drop i s 3 0, add-zero i)

starts_is : (d : List ℕ) → leb line_lead (length d) && reads8000 (drop length_digits d) 0 ≡ starts_set d
starts_is d = go (leb line_lead (length d)) refl
  where
    go : (b : Bool) → leb line_lead (length d) ≡ b → b && reads8000 (drop length_digits d) 0 ≡ b && (label_ok d && eqb (label_at d) 8000)
    go true e =
        let h : line_lead ≤ length d = leb-true line_lead (length d) e in
        reads-is (drop length_digits d) (omega (arith, length-drop length_digits d))
    go false e = refl

-- A set ends before an offset if the bytes from there on are none or start a set.
pub ends_is : (s : List ℕ) (at : ℕ) → ends_at s at ≡ set_over (drop at s)
unfolding ends_at
ends_is s at =
    rw (end_is s at, reads_at s (at + length_digits), ← drop-drop length_digits at s, ← length-drop at s)
    (ap (λ (b : Bool). is_nil (drop at s) || b) (starts_is (drop at s)))

-- once the bytes of a label are read, the set ends there exactly if they write 8000
pub ends_label : (s : List ℕ) (at : ℕ) {l : ℕ} → number_at s (at + length_digits) label_digits ≡ Some l → ends_at s at ≡ eqb l 8000
ends_label s at {l} q =
    let d : List ℕ = drop at s in
    let h : line_lead ≤ length d = omega (arith, number-within s (at + length_digits) label_digits q, length-drop at s) in
    let b = back (leb label_digits (length (drop length_digits d))) (label_ok d) (label_at d)
    (sym (number_is s (at + length_digits) label_digits (omega arith) (omega arith) ∙ rw (← drop-drop length_digits at s) refl) ∙ q) in
    ends_is s at ∙ (over d h b.0 ∙ ap (λ (x : ℕ). eqb x 8000) b.1)
  where
    -- what a number that was read says
    back : (a b : Bool) (n : ℕ) → as_number (a && b) n ≡ Some l → (b ≡ true) × (n ≡ l)
    back true true n e = (refl, cc)
    back true false n e = let z : ◌≡◌ {A = ℕ} 0 1 = cc in absurd (omega arith)
    back false b n e = let z : ◌≡◌ {A = ℕ} 0 1 = cc in absurd (omega arith)

    over : (d : List ℕ) → line_lead ≤ length d → label_ok d ≡ true → set_over d ≡ eqb (label_at d) 8000
    over [] h f = absurd (omega arith)
    over (b ∷ d) h f = rw (le-leb line_lead (length (b ∷ d)) h, f)

-- so a line that is read starts another set if its label is 8000
pub ends_read : (s : List ℕ) (at : ℕ) {l n : ℕ} → line_at s at ≡ a_line l n → ends_at s at ≡ eqb l 8000
ends_read s at q = ends_label s at (label-read s at q)

-- ---- all lines

-- what two scans say that are the same
abbrev length_of : Scanned → ℕ
length_of (Ok scan) = scan.length
length_of (Err r) = 0

abbrev lines_of : Scanned → ℕ
lines_of (Ok scan) = scan.lines
lines_of (Err r) = 0

pub same-scan : {n k m j : ℕ} → scanned n k ≡ scanned m j → (n ≡ m) × (k ≡ j)
same-scan e = (ap length_of e, ap lines_of e)

-- what `scan_set` says of a scan: "the set's length" and its lines, or the refusal
abbrev pub scan_summary : Reply Parsed → Scanned
scan_summary (refused r) = Err r
scan_summary (done d) = scanned (size d.fields) (length d.fields)

-- the same of a scan that began at an offset, with n lines before it
abbrev scan_summary_from : ℕ → ℕ → Reply Parsed → Scanned
scan_summary_from at n (refused r) = Err r
scan_summary_from at n (done d) = scanned (at + size d.fields) (n + length d.fields)

summary-first : (r : Reply Parsed) → scan_summary_from 0 0 r ≡ scan_summary r
summary-first (refused r) = refl
summary-first (done d) = rw (zero-add (size d.fields), zero-add (length d.fields))

summary-before : (at n m : ℕ) (f : Field) (r : Reply Parsed) → line_size f ≡ m → scan_summary_from (at + m) (n + 1) r ≡ scan_summary_from at n (and_before f r)
summary-before at n m f (refused r) e = refl
summary-before at n m f (done d) e =
    let p : (at + m) + size d.fields ≡ at + (line_size f + size d.fields) = omega arith in
    let q : (n + 1) + length d.fields ≡ n + suc (length d.fields) = omega arith in
    rw (p, q)

-- one line, and then what is known of those after it
line-then : (s : List ℕ) (at n : ℕ) (k : ℕ → List ℕ → Reply Parsed) (f : ℕ → Scanned)
    → ((m : ℕ) → f m ≡ scan_summary_from (at + m) (n + 1) (k (at + m) (drop (at + m) s)))
    → scan_after (line_at s at) f ≡ scan_summary_from at n (piece_then line_form (line_faults (drop at s)) at (drop at s) k)
line-then s at n k f h = rw (line-is s at) (go (line_faults (drop at s)) refl)
  where
    d : List ℕ
    d = drop at s

    go : (xs : List Fault) → line_faults d ≡ xs → scan_after (line_by_faults at xs (a_line (label_at d) (size_at d))) f ≡ scan_summary_from at n (piece_then line_form xs at d k)
    go [] e =
        h (size_at d)
        ∙ rw (← drop-drop (size_at d) at s) (summary-before at n (size_at d) (field_at d) (k (at + size_at d) (drop (size_at d) d)) (size_back d (whole d e)))
    go (x ∷ xs) e = refl

ends-or : (b : Bool) (at n : ℕ) (t : List ℕ) (x : Scanned) (y : Reply Parsed) → x ≡ scan_summary_from at n y
    → cond b (scanned at n) x ≡ scan_summary_from at n (cond b (done (parsed [] t)) y)
ends-or true at n t x y e = rw (add-zero at, add-zero n)
ends-or false at n t x y e = e

from_is : (s : List ℕ) (k at n : ℕ) → scan_from s at n k ≡ scan_summary_from at n (pieces line_form k at (drop at s))
unfolding scan_from pieces
from_is s zero at n = rw (ends_is s at) (ends-or (set_over (drop at s)) at n (drop at s) _ _ refl)
from_is s (suc k) at n =
    rw (ends_is s at) (ends-or (set_over (drop at s)) at n (drop at s) _ _
    (line-then s at n (λ p t. pieces line_form k p t) (λ m. scan_from s (at + m) (n + 1) k) (λ m. from_is s k (at + m) (n + 1))))

-- the count of lines is a variable here, so that no definition opens 511 times
first-is : (s : List ℕ) (k : ℕ) → scan_after (line_at s 0) (λ m. scan_from s m 1 k) ≡ scan_summary (piece_then line_form (line_faults s) 0 s (λ p t. pieces line_form k p t))
first-is s k =
    line-then s 0 0 (λ p t. pieces line_form k p t) (λ m. scan_from s m 1 k) (λ m. rw (zero-add m) (from_is s k m 1))
    ∙ summary-first (piece_then line_form (line_faults s) 0 s (λ p t. pieces line_form k p t))

-- The scan of a set is the summary of its scan in `meaning`.
pub scan-is : (s : List ℕ) → scan_set s ≡ scan_summary (scan s)
unfolding scan_set scan
scan-is [] = refl
scan-is (b ∷ s) = rw (ne_eqb (suc (length s)) 0 (λ e. omega arith)) (first-is (b ∷ s) (max_lines - 1))
