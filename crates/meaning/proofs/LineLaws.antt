-- Reading a line that was written, and writing a line that was read; the laws of the form of lines.
use mathlib.Core.Path.{◌≡◌, refl, sym, ap, ap₂, ◌∙◌}
use mathlib.Core.Bool.{true, false, true≢false}
use mathlib.Core.List.{List, [], ◌∷◌, ◌++◌, append_assoc}
use Prim.Native.Nat.{ℕ, suc, ◌+◌, ◌-◌, ◌≤◌, ◌<◌}
use native.Mathlib.Omega.{arith}
use lib.Dec.{leb, eqb}
use lib.ListN.{length, take, drop, get_or, length-append, length-take, length-drop, take-append-drop}
use lib.Seq.{take_at, drop_at, get_or-drop, drop-cons, drop-drop, get_or-append-add}
use borrow.Author.Tests.{leb-true, le-leb, eqb-true, eq-eqb, ne_eqb}
use Rattle.meaning.specs.Limits.{max_line_bytes}
use Rattle.meaning.specs.Digits.{digits, all_digits}
use Rattle.meaning.specs.Field.{Field, is_nil}
use Rattle.meaning.specs.Lines.{line_size, line_then, size, render, size_at, label_at, content_at, field_at, line_faults, length_ok, whole_ok, end_ok, label_ok, set_over, min_line_bytes, line_form}
use Rattle.meaning.proofs.Bools.{and_left, and_right, and_both, and_no, or_right}
use Rattle.meaning.proofs.DigitLaws.{number_lt, number_digits, digits_number, digits-all}
use Rattle.meaning.proofs.FaultLaws.{ask-none, High, lows-none, lows-back}
use Rattle.meaning.proofs.PieceLaws.{Lawful}

-- a field that can stand in a line
pub record Sound (f : Field) : Type 0 where
  pub label-fits : f.label < 10000
  pub some_byte : 1 ≤ length f.content
  pub not-long : line_size f ≤ max_line_bytes
  pub no-low : High f.content

-- a field whose line does not start a set
abbrev pub NoStart : Field → Type 0
NoStart f = f.label ≡ 8000 → ⊥

-- ---- reading what was written

module _ (f : Field) (t : List ℕ) (h : Sound f) where
  pub size-line : size_at (line_then f t) ≡ line_size f
  size-line = number_digits 3 (line_size f) (omega arith)

  pub label-line : label_at (line_then f t) ≡ f.label
  label-line = number_digits 4 f.label h.label-fits

  pub content-line : content_at (line_then f t) ≡ f.content
  content-line = rw size-line (take_at f.content (13 ∷ 10 ∷ t) (line_size f - 9) (omega arith))

  pub field-line : field_at (line_then f t) ≡ f
  field-line = λ i. record { label = label-line i; content = content-line i }

  split-line : line_then f t ≡ line_then f [] ++ t
  split-line = rw (append_assoc f.content (13 ∷ 10 ∷ []) t)

  length-alone : length (line_then f []) ≡ line_size f
  length-alone = simp length-append (omega arith)

  pub drop-line : drop (size_at (line_then f t)) (line_then f t) ≡ t
  drop-line = rw (size-line, split-line) (drop_at (line_then f []) t (line_size f) length-alone)

  pub long-line : line_size f ≤ length (line_then f t)
  long-line = simp length-append (omega arith)

  byte-line : (i n : ℕ) → n ≡ 7 + (length f.content + i) → get_or (line_then f t) n 0 ≡ get_or (13 ∷ 10 ∷ t) i 0
  byte-line i n e =
      ap (λ (m : ℕ). get_or (line_then f t) m 0) e
      ∙ (sym (get_or-drop 7 (line_then f t) (length f.content + i) 0) ∙ get_or-append-add f.content (13 ∷ 10 ∷ t) i 0)

  length-ok : length_ok (line_then f t) ≡ true
  length-ok = and_both
      (le-leb 3 (length (line_then f t)) (omega (arith, long-line)))
      (and_both (digits-all 3 (line_size f)) (rw size-line (le-leb min_line_bytes (line_size f) (omega arith))))

  whole-ok : whole_ok (line_then f t) ≡ true
  whole-ok = rw size-line (le-leb (line_size f) (length (line_then f t)) long-line)

  end-ok : end_ok (line_then f t) ≡ true
  end-ok = rw size-line (and_both (eq-eqb _ _ (byte-line 0 (line_size f - 2) (omega arith))) (eq-eqb _ _ (byte-line 1 (line_size f - 1) (omega arith))))

  pub faults-line : line_faults (line_then f t) ≡ []
  unfolding line_faults
  faults-line = rw (line_faults, length-ok, whole-ok, end-ok, digits-all 4 f.label, content-line) (lows-none 0 0 f.content h.no-low)

-- a line that starts no set does not end one
pub going_on : (f : Field) (t : List ℕ) → Sound f → NoStart f → set_over (line_then f t) ≡ false
going_on f t h n = and_no (leb 7 (length (line_then f t))) (and_no (label_ok (line_then f t)) (rw (label-line f t h) (ne_eqb f.label 8000 n)))

-- ---- writing what was read

-- a line that has no fault, as facts
pub record Whole (s : List ℕ) : Type 0 where
  pub least : min_line_bytes ≤ size_at s
  pub within : size_at s ≤ length s
  pub three : all_digits (take 3 s) ≡ true
  pub four : all_digits (take 4 (drop 3 s)) ≡ true
  pub ends-cr : get_or s (size_at s - 2) 0 ≡ 13
  pub ends-lf : get_or s (size_at s - 1) 0 ≡ 10
  pub high : High (content_at s)

pub whole : (s : List ℕ) → line_faults s ≡ [] → Whole s
unfolding line_faults
whole s e =
    let a = ask-none (length_ok s) _ _ e in
    let b = ask-none (whole_ok s) _ _ a.1 in
    let c = ask-none (end_ok s) _ _ b.1 in
    let d = ask-none (label_ok s) _ _ c.1 in
    let a' = and_right (leb 3 (length s)) _ a.0 in
    record {
      least = leb-true 10 (size_at s) (and_right (all_digits (take 3 s)) _ a');
      within = leb-true (size_at s) (length s) b.0;
      three = and_left (all_digits (take 3 s)) _ a';
      four = d.0;
      ends-cr = eqb-true _ 13 (and_left (eqb (get_or s (size_at s - 2) 0) 13) _ c.0);
      ends-lf = eqb-true _ 10 (and_right (eqb (get_or s (size_at s - 2) 0) 13) _ c.0);
      high = lows-back 0 0 (content_at s) d.1;
    }

module _ (s : List ℕ) (w : Whole s) where
  pub content-length : length (content_at s) ≡ size_at s - 9
  content-length = simp (length-take, length-drop) (omega arith)

  pub size_back : line_size (field_at s) ≡ size_at s
  size_back = omega (arith, content-length)

  length_three : length (take 3 s) ≡ 3
  length_three = simp length-take (omega arith)

  length-four : length (take 4 (drop 3 s)) ≡ 4
  length-four = simp (length-take, length-drop) (omega arith)

  -- "lengths run 010 to 999"
  pub size-most : size_at s ≤ max_line_bytes
  size-most = omega (arith, rw length_three at (number_lt (take 3 s) w.three))

  tail-back : drop (size_at s - 2) s ≡ 13 ∷ 10 ∷ drop (size_at s) s
  tail-back =
      let p : suc (size_at s - 2) ≡ size_at s - 1 = omega arith in
      let q : suc (size_at s - 1) ≡ size_at s = omega arith in
      rw (drop-cons s (size_at s - 2) 0 (omega arith), p, drop-cons s (size_at s - 1) 0 (omega arith), q, w.ends-cr, w.ends-lf)

  rest_back : drop 7 s ≡ content_at s ++ (13 ∷ 10 ∷ drop (size_at s) s)
  rest_back =
      let p : 7 + (size_at s - 9) ≡ size_at s - 2 = omega arith in
      sym (take-append-drop (size_at s - 9) (drop 7 s)) ∙ ap (λ (l : List ℕ). content_at s ++ l) (drop-drop (size_at s - 9) 7 s ∙ rw p tail-back)

  -- the line is its length, its label, its content and its end, each as written
  pub line-back : s ≡ line_then (field_at s) (drop (size_at s) s)
  line-back =
      let three : digits 3 (size_at s) ≡ take 3 s = rw length_three at (digits_number (take 3 s) w.three) in
      let four : digits 4 (label_at s) ≡ take 4 (drop 3 s) = rw length-four at (digits_number (take 4 (drop 3 s)) w.four) in
      sym (take-append-drop 3 s)
      ∙ ap₂ (λ (x y : List ℕ). x ++ y) (sym three ∙ ap (digits 3) (sym size_back))
      (sym (take-append-drop 4 (drop 3 s)) ∙ ap₂ (λ (x y : List ℕ). x ++ y) (sym four) (drop-drop 4 3 s ∙ rest_back))

  pub sound_back : Sound (field_at s)
  sound_back = record {
    label-fits = rw length-four at (number_lt (take 4 (drop 3 s)) w.four);
    some_byte = omega (arith, content-length);
    not-long = omega (arith, size_back, size-most);
    no-low = w.high;
  }

pub no-start-back : (s : List ℕ) → Whole s → set_over s ≡ false → NoStart (field_at s)
no-start-back s w e l =
    let y : set_over s ≡ true =
    or_right (is_nil s) (and_both (le-leb 7 (length s) (omega arith)) (and_both w.four (eq-eqb (label_at s) 8000 l))) in
    let z : true ≡ false = sym y ∙ e in
    true≢false z

-- ---- the form of a set's lines after the first

abbrev pub LaterLine : Field → Type 0
LaterLine f = Sound f × NoStart f

-- the bytes of a set may be any numbers
abbrev pub AnyByte : ℕ → Type 0
AnyByte b = Unit

pub line-lawful : Lawful line_form LaterLine AnyByte
line-lawful = record {
  no-fault = λ f t g. faults-line f t g.0;
  same = λ f t g. field-line f t g.0;
  rest = λ f t g. drop-line f t g.0;
  goes-on = λ f t g. going_on f t g.0 g.1;
  back = λ s b e. line-back s (whole s e);
  good = λ s b e o. (sound_back s (whole s e), no-start-back s (whole s e) o);
}

-- ---- sizes

pub length-line : (f : Field) (t : List ℕ) → length (line_then f t) ≡ line_size f + length t
length-line f t = simp length-append (omega arith)

pub length-render : (fs : List Field) (t : List ℕ) → length (render fs t) ≡ size fs + length t
length-render [] t = omega arith
length-render (f ∷ fs) t = length-line f (render fs t) ∙ omega (arith, length-render fs t)

pub render-split : (fs : List Field) (t : List ℕ) → render fs t ≡ render fs [] ++ t
render-split [] t = refl
render-split (f ∷ fs) t = ap (line_then f) (render-split fs t) ∙ rw (append_assoc f.content (13 ∷ 10 ∷ render fs []) t)

pub take-render : (fs : List Field) (t : List ℕ) → take (size fs) (render fs t) ≡ render fs []
take-render fs t = rw (render-split fs t) (take_at (render fs []) t (size fs) (length-render fs [] ∙ omega arith))
