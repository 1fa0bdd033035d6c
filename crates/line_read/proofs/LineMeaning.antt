-- What the walks mean: over an offset they are the definitions of `meaning` over the bytes from there on. Then what a line says that was read.
use mathlib.Core.Path.{◌≡◌, refl, sym, ap, ◌∙◌}
use mathlib.Core.Bool.{Bool, true, false, cond, ◌&&◌}
use mathlib.Core.List.{List, [], ◌∷◌, ◌++◌}
use Prim.Native.Nat.{ℕ, zero, suc, ◌+◌, ◌-◌, ◌*◌, ◌≤◌, ◌<◌}
use native.Mathlib.Omega.{arith}
use native.Mathlib.Nat.{add-zero}
use lib.Dec.{leb}
use lib.ListN.{length, get_or, take, drop, length-drop}
use lib.Seq.{get_or-drop, drop-drop}
use borrow.Author.Tests.{leb-true, leb-false, le-leb, lt-leb}
use Rattle.meaning.specs.Limits.{max_line_bytes}
use Rattle.meaning.specs.Digits as D
use Rattle.meaning.specs.Digits.{digit_zero, digit, all_digits, number}
use Rattle.meaning.specs.Field.{Field}
use Rattle.meaning.specs.Refusals.{Fault, at_line, ask, behind, refusal, bad_length, bad_byte}
use Rattle.meaning.specs.Lines.{length_digits, label_digits, line_lead, line_end, line_size, line_then, size_at, label_at}
use Rattle.meaning.specs.Lines.{min_line_bytes, length_ok, whole_ok, end_ok, label_ok, low_bytes, line_faults}
use Rattle.meaning.proofs.Bools.{and_right, byte-then}
use Rattle.meaning.proofs.LineLaws.{Sound, label-line, size-line, content-line, drop-line, faults-line, whole, size-most, sound_back}
use Rattle.byte_low.proofs.LowLaws.{low-is}
use Rattle.line_read.specs.Number.{number_after, number_at, most_digits, Number}
use Rattle.line_read.specs.Line.{must, must_read, labelled_line, sized_line, line_at, line_content, LineRead, a_line}
use Rattle.std.specs.Prelude.{Ok, Err, None, Some}

-- ---- numbers

-- the number if the test holds
abbrev pub as_number : Bool → ℕ → Number
as_number true n = Some n
as_number false n = None

digit-then : (b : Bool) (r : Number) (c : Bool) (n : ℕ) → r ≡ as_number c n → cond b r None ≡ as_number (b && c) n
digit-then true r c n e = e
digit-then false r c n e = refl

pub digits_are : (s : List ℕ) (k at n : ℕ) → at + k ≤ length s
    → number_after s n at k ≡ as_number (all_digits (take k (drop at s))) (D.number_from n (take k (drop at s)))
unfolding number_after
digits_are s zero at n h = refl
digits_are s (suc k) at n h =
    let ih = digits_are s k (at + 1) (n * 10 + (get_or s at 0 - digit_zero)) (omega arith) in
    rw (byte-then s at (omega arith)) (digit-then (digit (get_or s at 0)) _ (all_digits (take k (drop (at + 1) s))) _ ih)

-- A number is read if k bytes remain and all of them are digits.
pub number_is : (s : List ℕ) (at k : ℕ) → 1 ≤ k → k ≤ most_digits
    → number_at s at k ≡ as_number (leb k (length (drop at s)) && all_digits (take k (drop at s))) (number (take k (drop at s)))
unfolding number_at
number_is s at k l h = rw (le-leb k most_digits h) (go (leb (at + k) (length s)) refl)
  where
    go : (b : Bool) → leb (at + k) (length s) ≡ b
        → cond b (number_after s 0 at k) None ≡ as_number (leb k (length (drop at s)) && all_digits (take k (drop at s))) (number (take k (drop at s)))
    go true e =
        let a : at + k ≤ length s = leb-true (at + k) (length s) e in
        rw (le-leb k (length (drop at s)) (omega (arith, length-drop at s))) (digits_are s k at 0 a)
    go false e =
        let a : length s < at + k = leb-false (at + k) (length s) e in
        rw (lt-leb k (length (drop at s)) (omega (arith, length-drop at s)))

-- ---- one line

-- the line at an offset whose bytes have these faults: "the first fault in this order is the answer" (the label of a line's fault is 0)
abbrev pub line_by_faults : ℕ → List Fault → LineRead → LineRead
line_by_faults at [] l = l
line_by_faults at (x ∷ xs) l = Err (refusal x.no (at + behind line_lead x.spot) x.label)

-- a rule of the walk is a rule of the meaning if both test the same, and both go on alike once the test holds
rule-is : (a b : Bool) (n at : ℕ) (l m : LineRead) (xs : List Fault) → a ≡ b → (b ≡ true → l ≡ line_by_faults at xs m)
    → must a n at l ≡ line_by_faults at (ask b (at_line n 0 0) ++ xs) m
unfolding must
rule-is a true n at l m xs e h = rw e (h refl)
rule-is a false n at l m xs e h = rw (e, add-zero at)

must-number : (b : Bool) (m n at : ℕ) (f : ℕ → LineRead) → must_read (as_number b m) n at f ≡ must b n at (f m)
unfolding must must_read
must-number true m n at f = refl
must-number false m n at f = refl

must-cond : (b : Bool) (n at : ℕ) (l : LineRead) → must b n at l ≡ cond b l (Err (refusal n at 0))
unfolding must
must-cond true n at l = refl
must-cond false n at l = refl

must-and : (a b c : Bool) (n at : ℕ) (l : LineRead) → must (a && b) n at (must c n at l) ≡ must (a && (b && c)) n at l
unfolding must
must-and true true c n at l = refl
must-and true false c n at l = refl
must-and false b c n at l = refl

module _ (s : List ℕ) (at : ℕ) where
  content-is : (n label : ℕ) → min_line_bytes ≤ n → at + n ≤ length s
      → labelled_line s at n label ≡ line_by_faults at (low_bytes 0 0 (take (n - (line_lead + line_end)) (drop line_lead (drop at s)))) (a_line label n)
  unfolding labelled_line
  content-is n label h g =
      must-cond _ bad_byte _ (a_line label n)
      ∙ rw (drop-drop line_lead at s) (low-is (λ xs. line_by_faults at xs (a_line label n)) (λ x. Err (refusal bad_byte x 0)) 0 (at + line_lead) first
      s (n - (line_lead + line_end)) (at + line_lead) 0 (omega arith) (omega arith))
    where
      first : (i : ℕ) (xs : List Fault) → ◌≡◌ {A = LineRead} (Err (refusal bad_byte (at + (line_lead + i)) 0)) (Err (refusal bad_byte (at + line_lead + i) 0))
      first i xs = ap (λ (x : ℕ). Err (refusal bad_byte x 0)) (omega arith)

  label-is : (n : ℕ) (f : ℕ → LineRead) → line_lead ≤ length (drop at s)
      → must_read (number_at s (at + length_digits) label_digits) n at f ≡ must (label_ok (drop at s)) n at (f (label_at (drop at s)))
  label-is n f h =
      let d : List ℕ = drop at s in
      rw (number_is s (at + length_digits) label_digits (omega arith) (omega arith), ← drop-drop length_digits at s)
      (rw (le-leb label_digits (length (drop length_digits d)) (omega (arith, length-drop length_digits d))) (must-number (label_ok d) (label_at d) n at f))

  -- The line at an offset: its label and size if the bytes from there on have no fault, else the refusal of their first fault. The walk's rules are
  -- those of `line_faults` one by one; the last two rest on what the length and the whole line have shown.
  pub line-is : line_at s at ≡ line_by_faults at (line_faults (drop at s)) (a_line (label_at (drop at s)) (size_at (drop at s)))
  unfolding line_at sized_line line_faults
  line-is =
      let d : List ℕ = drop at s in
      let n : ℕ = size_at d in
      rw (number_is s at length_digits (omega arith) (omega arith)) (
      must-number (leb length_digits (length d) && all_digits (take length_digits d)) n bad_length at (λ m. sized_line s at m)
      ∙ must-and (leb length_digits (length d)) (all_digits (take length_digits d)) (leb min_line_bytes n) bad_length at _
      ∙ rule-is (length_ok d) (length_ok d) _ at _ _ _ refl (λ a.
      let least : min_line_bytes ≤ n = leb-true min_line_bytes n (and_right (all_digits (take length_digits d)) _ (and_right (leb length_digits (length d)) _ a)) in
      rule-is _ (whole_ok d) _ at _ _ _ (rw (length-drop at s)) (λ b.
      let within : n ≤ length d = leb-true n (length d) b in
      rule-is _ (end_ok d) _ at _ _ _ (rw (get_or-drop at s (n - 2) 0, get_or-drop at s (n - 1) 0)) (λ c.
      label-is _ (λ m. labelled_line s at n m) (omega arith)
      ∙ rule-is (label_ok d) (label_ok d) _ at _ _ _ refl (λ e. content-is n (label_at d) least (omega (arith, length-drop at s)))))))

-- ---- a line that was read, and a line that was written

-- what a line that was read at an offset says of the bytes there
pub record ReadAt (s : List ℕ) (at label size : ℕ) : Type 0 where
  pub no-fault : line_faults (drop at s) ≡ []
  pub label-so : label ≡ label_at (drop at s)
  pub size-so : size ≡ size_at (drop at s)
  pub least : min_line_bytes ≤ size
  pub most : size ≤ max_line_bytes
  pub within : at + size ≤ length s
  pub label-fits : label ≤ 9999

-- the label and the whole length of a line that is read
abbrev label_of : LineRead → ℕ
label_of (Ok line) = line.label
label_of (Err r) = 0

abbrev size_of : LineRead → ℕ
size_of (Ok line) = line.size
size_of (Err r) = 0

-- what two lines say that are the same
pub same-line : {l n k m : ℕ} → a_line l n ≡ a_line k m → (l ≡ k) × (n ≡ m)
same-line e = (ap label_of e, ap size_of e)

pub read_back : (s : List ℕ) (at : ℕ) {label size : ℕ} → line_at s at ≡ a_line label size → ReadAt s at label size
read_back s at {label} {size} e = go (line_faults (drop at s)) refl (sym (line-is s at) ∙ e)
  where
    d : List ℕ
    d = drop at s

    go : (xs : List Fault) → line_faults d ≡ xs → line_by_faults at xs (a_line (label_at d) (size_at d)) ≡ a_line label size → ReadAt s at label size
    go [] q h =
        let w = whole d q in
        let l : label ≡ label_at d = sym (same-line h).0 in
        let n : size ≡ size_at d = sym (same-line h).1 in
        record {
          no-fault = q;
          label-so = l;
          size-so = n;
          least = omega (arith, w.least);
          most = omega (arith, size-most d w);
          within = omega (arith, w.least, w.within, length-drop at s);
          label-fits = omega (arith, (sound_back d w).label-fits);
        }
    go (x ∷ xs) q h = let z : ◌≡◌ {A = ℕ} 0 1 = cc in absurd (omega arith)

-- the label of a line that is read, as a number
pub label-read : (s : List ℕ) (at : ℕ) {l n : ℕ} → line_at s at ≡ a_line l n → number_at s (at + length_digits) label_digits ≡ Some l
label-read s at q =
    let r = read_back s at q in
    let d : List ℕ = drop at s in
    let w = whole d r.no-fault in
    let h : label_digits ≤ length (drop length_digits d) = omega (arith, w.least, w.within, length-drop length_digits d) in
    number_is s (at + length_digits) label_digits (omega arith) (omega arith)
    ∙ rw (← drop-drop length_digits at s, le-leb label_digits (length (drop length_digits d)) h, w.four) (ap Some (sym r.label-so))

-- A line that was written is read: its field's label and size.
pub read-line : (s : List ℕ) (at : ℕ) (f : Field) (t : List ℕ) → drop at s ≡ line_then f t → Sound f → line_at s at ≡ a_line f.label (line_size f)
read-line s at f t e h = line-is s at ∙ rw (e, faults-line f t h, label-line f t h, size-line f t h)

-- a line that was written at an offset: its content, and what follows it
module _ (s : List ℕ) (at : ℕ) (f : Field) (u : List ℕ) (h : Sound f) (w : drop at s ≡ line_then f u) where
  pub reads-content : line_content s at (line_size f) ≡ f.content
  reads-content =
      ap (take (line_size f - 9)) (sym (drop-drop 7 at s) ∙ ap (drop 7) w)
      ∙ (ap (λ (m : ℕ). take (m - 9) (drop 7 (line_then f u))) (sym (size-line f u h)) ∙ content-line f u h)

  pub reads_on : drop (at + line_size f) s ≡ u
  reads_on = sym (drop-drop (line_size f) at s) ∙ (ap (drop (line_size f)) w ∙ (ap (λ (m : ℕ). drop m (line_then f u)) (sym (size-line f u h)) ∙ drop-line f u h))
