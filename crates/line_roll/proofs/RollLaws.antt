-- The roll grows by one label at a time, and the lines of an accepted set can be rolled: their labels are those of its fields.
use mathlib.Core.Path.{◌≡◌, refl, ap, ◌∙◌}
use mathlib.Core.Logic.{◌≢◌}
use mathlib.Core.Bool.{Bool, true, false}
use mathlib.Core.List.{List, [], ◌∷◌}
use Prim.Native.Nat.{ℕ, zero, suc, ◌+◌, ◌-◌, ◌≤◌, ◌<◌}
use native.Mathlib.Omega.{arith}
use native.Mathlib.Numerals.{add-one}
use borrow.Author.Tests.{eqb-true, eqb-false}
use lib.Dec.{eqb}
use lib.ListN.{length, get_or, set, drop}
use lib.Seq.{drop-cons, get_or-set_same, get_or-set_other}
use Rattle.meaning.specs.declared.Shape.{Shape}
use Rattle.meaning.specs.Limits.{max_lines}
use Rattle.meaning.specs.Field.{Field, no_field, label_at_line}
use Rattle.meaning.specs.Refusals.{done}
use Rattle.meaning.specs.Pieces.{Parsed}
use Rattle.meaning.specs.Lines.{line_lead, line_end, line_size, line_then, offset, render}
use Rattle.meaning.specs.Reading.{read, judge}
use Rattle.meaning.proofs.Bools.{every-at}
use Rattle.meaning.proofs.LineLaws.{Sound}
use Rattle.meaning.proofs.PlaceLaws.{drop-render}
use Rattle.meaning.proofs.SetLaws.{accepted}
use Rattle.meaning.proofs.Demands.{judge-read}
use Rattle.line_read.proofs.LineMeaning.{read-line, read_back}
use Rattle.line_read.proofs.ToldLaws.{length-told, told-there, read_told}
use Rattle.line_read.specs.Line.{line_at, a_line}
use Rattle.line_read.specs.Told.{three_bytes, three_zeros, told_length, told_label}
use Rattle.line_roll.specs.Rolled.{line_start, label_values, Lined}
use Rattle.std.specs.Prelude.{Ok}

-- ---- one label more

-- the labels ls of the first n lines, of which the next one starts at `at`
module _ (s ls : List ℕ) (n at : ℕ) (here : at ≡ line_start s n) where
  pub start-next : (m : ℕ) → m ≡ told_length s at + (line_lead + line_end) → at + m ≡ line_start s (n + 1)
  unfolding line_start
  start-next m q = rw (add-one, q, here)

  pub labels-next : ((k : ℕ) → k < n → get_or ls k 0 ≡ told_label s (line_start s k)) → (l : ℕ) → l ≡ told_label s at → n < length ls
      → (k : ℕ) → k < n + 1 → get_or (set ls n l) k 0 ≡ told_label s (line_start s k)
  labels-next before l p h k g = go (eqb k n) refl
    where
      go : (b : Bool) → eqb k n ≡ b → get_or (set ls n l) k 0 ≡ told_label s (line_start s k)
      go true e =
          let i : k ≡ n = eqb-true k n e in
          rw (i, get_or-set_same ls n l 0 h, p, here)
      go false e =
          let i : k ≢ n = eqb-false k n e in
          get_or-set_other ls n k l 0 i ∙ before k (omega arith)

  -- the next line, if it is one of the first lines of the set
  module _ (lines : ℕ) (d : Lined s lines) (h : n < lines) where
    pub next-labelled : told_label s at < label_values
    next-labelled = rw here (d.labelled n h)

    pub next-within : at + (told_length s at + (line_lead + line_end)) ≤ length s
    unfolding line_start
    next-within = rw here (d.within n h)

    next-sized : told_length s at ≢ 0
    next-sized = rw here (d.sized n h)

    -- its three digits say its whole length
    pub next-there : at + line_lead ≤ length s
    next-there = told-there s at (told_length s at) refl next-sized

    next-told : three_bytes s at - (three_zeros + (line_lead + line_end)) ≡ told_length s at
    next-told = length-told s at next-there (three_bytes s at) refl

    pub next-digits : three_zeros ≤ three_bytes s at
    next-digits = omega (arith, next-told, next-sized)

    pub next-size : (m : ℕ) → m ≡ three_bytes s at - three_zeros → m ≡ told_length s at + (line_lead + line_end)
    next-size m e = omega (arith, e, next-told, next-sized)

-- fewer of the lines
pub fewer-lined : (s : List ℕ) (n m : ℕ) → Lined s n → m ≤ n → Lined s m
fewer-lined s n m d h = record { sized = λ k g. d.sized k (omega arith); labelled = λ k g. d.labelled k (omega arith); within = λ k g. d.within k (omega arith) }

-- ---- the lines of an accepted set

offset-next : (fs : List Field) (k : ℕ) → k < length fs → offset fs (suc k) ≡ offset fs k + line_size (get_or fs k no_field)
offset-next [] k h = absurd (omega arith)
offset-next (f ∷ fs) zero h = omega arith
offset-next (f ∷ fs) (suc k) h = omega (arith, offset-next fs k (omega arith))

module _ (s : List ℕ) (d : Parsed) (e : read s ≡ done d) where
  abbrev fs : List Field
  fs = d.fields

  sound-at : (k : ℕ) → k < length fs → Sound (get_or fs k no_field)
  sound-at k h = every-at Sound fs k no_field h (accepted s d e).standing.sound

  -- the line at its offset is read
  line_read : (k : ℕ) → k < length fs → line_at s (offset fs k) ≡ a_line (label_at_line fs k) (line_size (get_or fs k no_field))
  line_read k h =
      let w : drop (offset fs k) s ≡ line_then (get_or fs k no_field) (render (drop (suc k) fs) d.rest) =
      ap (drop (offset fs k)) (accepted s d e).bytes
      ∙ (drop-render fs k d.rest (omega arith) ∙ ap (λ (gs : List Field). render gs d.rest) (drop-cons fs k no_field h)) in
      read-line s (offset fs k) (get_or fs k no_field) (render (drop (suc k) fs) d.rest) w (sound-at k h)

  -- where a line starts by the lengths that those before it say, there it stands
  start_is : (k : ℕ) → k ≤ length fs → line_start s k ≡ offset fs k
  unfolding line_start
  start_is zero h = refl
  start_is (suc k) h =
      rw (start_is k (omega arith), (read_told s (offset fs k) (line_read k (omega arith))).0)
      (omega (arith, offset-next fs k (omega arith)))

  -- the length and the label that it says are its own
  rolled-length : (k : ℕ) → k < length fs → told_length s (line_start s k) ≡ line_size (get_or fs k no_field) - (line_lead + line_end)
  rolled-length k h = rw (start_is k (omega arith)) (read_told s (offset fs k) (line_read k h)).0

  pub rolled-label : (k : ℕ) → k < length d.fields → told_label s (line_start s k) ≡ label_at_line d.fields k
  rolled-label k h = rw (start_is k (omega arith)) (read_told s (offset fs k) (line_read k h)).1

  pub set-lined : Lined s (length d.fields)
  set-lined = record {
    sized = λ k h z. omega (arith, z, rolled-length k h, (sound-at k h).some_byte);
    labelled = λ k h. rw (rolled-label k h) (sound-at k h).label-fits;
    within = λ k h. omega (arith, start_is (suc k) (omega arith), offset-next fs k h, (read_back s (offset fs k) (line_read k h)).within);
  }

-- so the lines of a set that is judged good, of which there are at most 512
pub judged-lined : (s : List ℕ) (x : Shape) → judge s ≡ Ok x → Lined s x.lines × (x.lines ≤ max_lines)
judged-lined s x j =
    let d = judge-read s x j in
    rw (ap (λ (y : Shape). y.lines) d.2) (set-lined s d.0 d.1, (accepted s d.0 d.1).standing.few)
