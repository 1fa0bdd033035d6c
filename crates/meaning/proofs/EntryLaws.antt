-- Reading an entry that was written, and writing an entry that was read; the laws of the form of a list's entries.
-- Assumes that bytes are under 256.
use mathlib.Core.Path.{◌≡◌, refl, sym, ◌∙◌}
use mathlib.Core.Bool.{true}
use mathlib.Core.List.{List, [], ◌∷◌, ◌++◌}
use Prim.Native.Nat.{ℕ, zero, suc, ◌+◌, ◌*◌, ◌/◌, ◌%◌, ◌≤◌, ◌<◌}
use native.Mathlib.Omega.{arith}
use lib.Dec.{leb}
use lib.ListN.{length, take, drop, get_or, length-append, length-take, take-append-drop}
use lib.Seq.{take_at, drop_at, drop-drop}
use borrow.Author.Tests.{leb-true, le-leb}
use Rattle.meaning.specs.Field.{Field}
use Rattle.meaning.specs.Pieces.{put_all}
use Rattle.meaning.specs.Lines.{size}
use Rattle.meaning.specs.Entries.{two_bytes_at, entry_label, entry_content, entry_field, entry_width, entry_whole, entry_ok, max_label, entry_faults, entry_then, entry_form, list_size}
use Rattle.meaning.proofs.Bools.{and_left, and_right, and_both, Every}
use Rattle.meaning.proofs.FaultLaws.{ask-none, High, lows-none, lows-back}
use Rattle.meaning.proofs.PieceLaws.{Lawful}

abbrev pub Byte : ℕ → Type 0
Byte b = b < 256

-- a field that can stand in an entry of a list
pub record Listed (f : Field) : Type 0 where
  pub label-fits : f.label ≤ max_label
  pub not-long : length f.content < 65536
  pub no-low : High f.content

-- ---- reading what was written

module _ (f : Field) (t : List ℕ) (short : length f.content < 65536) where
  pub length-entry : two_bytes_at (entry_then f t) 0 ≡ length f.content
  length-entry = omega arith

  pub content-entry : entry_content (entry_then f t) ≡ f.content
  content-entry = rw length-entry (take_at f.content t (length f.content) refl)

  pub whole-entry : entry_whole (entry_then f t) ≡ true
  whole-entry =
      let n : length (f.content ++ t) ≡ length f.content + length t = length-append f.content t in
      and_both (le-leb 4 (length (entry_then f t)) (omega arith)) (le-leb (entry_width (entry_then f t)) (length (entry_then f t)) (omega arith))

  pub rest-entry : drop (entry_width (entry_then f t)) (entry_then f t) ≡ t
  rest-entry = sym (drop-drop (two_bytes_at (entry_then f t) 0) 4 (entry_then f t)) ∙ rw length-entry (drop_at f.content t (length f.content) refl)

  pub label-entry : f.label < 65536 → entry_label (entry_then f t) ≡ f.label
  label-entry l = omega arith

  pub field-entry : f.label < 65536 → entry_field (entry_then f t) ≡ f
  field-entry l = λ i. record { label = label-entry l i; content = content-entry i }

faults-entry : (f : Field) (t : List ℕ) → Listed f → entry_faults (entry_then f t) ≡ []
unfolding entry_faults
faults-entry f t g =
    let l : entry_label (entry_then f t) ≤ max_label = omega (arith, label-entry f t g.not-long (omega (arith, g.label-fits)), g.label-fits) in
    rw (whole-entry f t g.not-long, le-leb (entry_label (entry_then f t)) max_label l, content-entry f t g.not-long) (lows-none 0 0 f.content g.no-low)

-- ---- writing what was read

-- an entry that is not cut, as facts
pub record Entire (s : List ℕ) : Type 0 where
  pub four : 4 ≤ length s
  pub within : entry_width s ≤ length s

pub entire : (s : List ℕ) → entry_whole s ≡ true → Entire s
entire s e = record {
  four = leb-true 4 (length s) (and_left (leb 4 (length s)) _ e);
  within = leb-true (entry_width s) (length s) (and_right (leb 4 (length s)) _ e);
}

pub entry-back : (s : List ℕ) → Every Byte s → Entire s → s ≡ entry_then (entry_field s) (drop (entry_width s) s)
entry-back [] b w = absurd (omega arith)
entry-back (b0 ∷ []) b w = absurd (omega arith)
entry-back (b0 ∷ b1 ∷ []) b w = absurd (omega arith)
entry-back (b0 ∷ b1 ∷ b2 ∷ []) b w = absurd (omega arith)
entry-back (b0 ∷ b1 ∷ b2 ∷ b3 ∷ u) b w =
    let s : List ℕ = b0 ∷ b1 ∷ b2 ∷ b3 ∷ u in
    let n : length (take (two_bytes_at s 0) u) ≡ two_bytes_at s 0 = simp length-take (omega (arith, w.within)) in
    let e : take (two_bytes_at s 0) u ++ drop (entry_width s) s ≡ u = rw (← drop-drop (two_bytes_at s 0) 4 s) (take-append-drop (two_bytes_at s 0) u) in
    let p0 : length (take (two_bytes_at s 0) u) % 256 ≡ b0 = omega arith in
    let p1 : length (take (two_bytes_at s 0) u) / 256 ≡ b1 = omega arith in
    let p2 : two_bytes_at s 2 % 256 ≡ b2 = omega arith in
    let p3 : two_bytes_at s 2 / 256 ≡ b3 = omega arith in
    rw (p0, p1, p2, p3, e)

byte_at : (s : List ℕ) (i : ℕ) → Every Byte s → get_or s i 0 < 256
byte_at [] i h = omega arith
byte_at (b ∷ s) zero h = h.0
byte_at (b ∷ s) (suc i) h = byte_at s i h.1

pub short_back : (s : List ℕ) → Every Byte s → length (entry_content s) < 65536
short_back s b = simp length-take (omega (arith, byte_at s 0 b, byte_at s 1 b))

-- an entry of a list that has no fault, as facts
record Right (s : List ℕ) : Type 0 where
  whole : Entire s
  label-most : entry_label s ≤ max_label
  high : High (entry_content s)

right : (s : List ℕ) → entry_faults s ≡ [] → Right s
unfolding entry_faults
right s e =
    let a = ask-none (entry_ok s) _ _ e in
    record {
      whole = entire s (and_left (entry_whole s) _ a.0);
      label-most = leb-true (entry_label s) max_label (and_right (entry_whole s) _ a.0);
      high = lows-back 0 0 (entry_content s) a.1;
    }

-- all numbers of an entry that was written are bytes
every_append : (a b : List ℕ) → Every Byte a → Every Byte b → Every Byte (a ++ b)
every_append [] b h k = k
every_append (x ∷ a) b h k = (h.0, every_append a b h.1 k)

pub entry-bytes : (f : Field) → f.label < 65536 → length f.content < 65536 → Every Byte f.content → Every Byte (entry_then f [])
entry-bytes f l n h = (omega arith, (omega arith, (omega arith, (omega arith, every_append f.content [] h tt))))

-- ---- the form of a list's entries

pub entry-lawful : Lawful entry_form Listed Byte
entry-lawful = record {
  no-fault = faults-entry;
  same = λ f t g. field-entry f t g.not-long (omega (arith, g.label-fits));
  rest = λ f t g. rest-entry f t g.not-long;
  goes-on = λ f t g. refl;
  back = λ s b e. entry-back s b (right s e).whole;
  good = λ s b e o. record { label-fits = (right s e).label-most; not-long = short_back s b; no-low = (right s e).high };
}

pub length-entries : (es : List Field) → length (put_all entry_form es []) ≡ list_size es
length-entries [] = refl
length-entries (f ∷ fs) = simp length-append (omega (arith, length-entries fs))

-- each line has five bytes more than the entry of its field: nine in the place of four
pub lines-over-entries : (fs : List Field) → size fs ≡ list_size fs + length fs * 5
lines-over-entries [] = refl
lines-over-entries (f ∷ fs) = omega (arith, lines-over-entries fs)
