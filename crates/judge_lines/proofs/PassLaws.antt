-- The pass over bytes and flags finds what the rules of `meaning` find over fields and labels: 11 to 16 and 24, by one induction over the fields.
use mathlib.Core.Path.{◌≡◌, refl, sym, ap, ap₂, ◌∙◌, subst}
use mathlib.Core.List.{List, [], ◌∷◌, cons≢nil}
use Prim.Native.Nat.{ℕ, zero, suc, ◌+◌, ◌-◌, ◌≤◌}
use native.Mathlib.Numerals.{add-one}
use native.Mathlib.Omega.{arith}
use lib.ListN.{length, drop, take}
use borrow.Author.Tests.{ne_eqb}
use Rattle.std.specs.Prelude.{Result, Ok, Err}
use Rattle.meaning.specs.declared.Refusal.{Refusal}
use Rattle.meaning.specs.declared.SetType.{SetType}
use Rattle.meaning.specs.Field.{Field}
use Rattle.meaning.specs.Limits.{max_lines}
use Rattle.meaning.specs.Refusals.{start, refusal}
use Rattle.meaning.specs.Lines.{line_lead, line_size, size, offset, render}
use Rattle.meaning.specs.Groups as G
use Rattle.meaning.specs.Groups.{first}
use Rattle.meaning.specs.Answers.{no_refusal}
use Rattle.meaning.specs.Reading.{in_set}
use Rattle.meaning.proofs.Bools.{Every}
use Rattle.meaning.proofs.FirstLaws.{first_of}
use Rattle.meaning.proofs.RealLaws.{faults_then_high, of_type}
use Rattle.meaning.proofs.LineLaws.{Sound, take-render}
use Rattle.line_read.specs.Line.{line_at, line_content, a_line}
use Rattle.line_read.proofs.LineMeaning.{read-line, read_back, reads-content, reads_on}
use Rattle.line_seven.specs.Seven.{high_in_set}
use Rattle.line_seven.proofs.SevenMeaning.{high-in-set-is}
use Rattle.judge_missing.specs.declared.State.{State}
use Rattle.judge_missing.specs.Lacks.{Flagged, none_seen, flagged_of, told}
use Rattle.judge_missing.proofs.FlagLaws.{Agrees, none-agrees}
use Rattle.judge_line.specs.Steps.{row_of, line_no, Stepped}
use Rattle.judge_line.proofs.StepLaws.{refused-err, refused-ok}
use Rattle.judge_line.proofs.StepMeaning.{pass_finds, pass-line, pass-finish, pass-finds}
use Rattle.judge_lines.specs.Pass.{pass_from, pass_set}

-- ---- the pass: one line more

-- the content of a line is the part of the set that stands there
pub step_line : {settype : SetType} {x : State} {l : ℕ} {r : Result Unit ℕ} {y : State} (s : List ℕ) (at size : ℕ) → 10 ≤ size
    → Stepped (row_of settype l) settype x at l (take (at + size - 2 - (at + 7)) (drop (at + line_lead) s)) r y
    → Stepped (row_of settype l) settype x at l (line_content s at size) r y
step_line {settype} {x} {l} {r} {y} s at size h e =
    let m : at + size - 2 - (at + 7) ≡ size - 9 = omega arith in
    subst (λ (n : ℕ). Stepped (row_of settype l) settype x at l (take n (drop (at + line_lead) s)) r y) m e

module _ (s : List ℕ) (settype : SetType) (at : ℕ) (x : State) (l size : ℕ) (q : line_at s at ≡ a_line l size) where
  pub pass-bad : {n : ℕ} {y : State} → Stepped (row_of settype l) settype x at l (line_content s at size) (Err n) y
      → (m : ℕ) → pass_from s settype at (flagged_of x) (told x.lack) (suc m) ≡ refusal n at l
  unfolding pass_from
  pass-bad {n} e m =
      let w = refused-err _ _ e.number in
      rw (q, ne_eqb _ 0 w.1, w.0)

  pub pass_on : {y : State} → Stepped (row_of settype l) settype x at l (line_content s at size) (Ok tt) y
      → (m : ℕ) → pass_from s settype at (flagged_of x) (told x.lack) (suc m) ≡ pass_from s settype (at + size) (flagged_of y) (told y.lack) m
  unfolding pass_from
  pass_on e m =
      let z : line_no (row_of settype l) (flagged_of x) l (line_content s at size) ≡ 0 = refused-ok _ e.number in
      rw (q, z) (ap₂ (λ (f : Flagged) (g : Refusal). pass_from s settype (at + size) f g m) (sym (e.flagged-so refl)) (sym (e.lack-so refl)))

-- ---- the pass over the fields

-- the line after this one
pub offset-next : (all : List Field) (k : ℕ) (f : Field) (fs : List Field) → drop k all ≡ f ∷ fs → (offset all (suc k) ≡ offset all k + line_size f) × (drop (suc k) all ≡ fs)
offset-next [] zero f fs e = absurd (cons≢nil (sym e))
offset-next [] (suc k) f fs e = absurd (cons≢nil (sym e))
offset-next (x ∷ xs) zero f fs e =
    let a : x ≡ f = cc in
    let b : xs ≡ fs = cc in
    (ap (λ (y : Field). line_size y + 0) a ∙ omega arith, b)
offset-next (x ∷ xs) (suc k) f fs e =
    let ih = offset-next xs k f fs e in
    (omega (arith, ih.0), ih.1)

-- after the last line
offset-end : (all : List Field) (k : ℕ) → drop k all ≡ [] → offset all k ≡ size all
offset-end [] zero e = refl
offset-end [] (suc k) e = refl
offset-end (x ∷ xs) zero e = absurd (cons≢nil e)
offset-end (x ∷ xs) (suc k) e = ap (λ (n : ℕ). line_size x + n) (offset-end xs k e)

module _ (s : List ℕ) (settype : SetType) (all : List Field) (high : Refusal) (found : high_in_set (take (size all) s) ≡ high) where
  next_place : (at k : ℕ) (f : Field) (fs : List Field) → at ≡ in_set all k start → drop k all ≡ f ∷ fs → at + line_size f ≡ in_set all (k + 1) start
  next_place at k f fs e d = rw add-one (omega (arith, e, (offset-next all k f fs d).0))

  pub pass-is : (fs : List Field) (t : List ℕ) (at k : ℕ) (st : Flagged) (ms : G.State) (lack : Refusal) → Every Sound fs → drop at s ≡ render fs t → at ≤ length s
      → at ≡ in_set all k start → drop k all ≡ fs → Agrees (in_set all) st ms → pass_from s settype at st lack (length fs) ≡ pass_finds settype (in_set all) high ms k fs lack
  unfolding pass_from
  pass-is [] t at k st ms lack h w b e d sm =
      let end : at ≡ size all = omega (arith, e, offset-end all k d) in
      rw (end, found) (pass-finish settype (in_set all) high k st ms lack refl sm)
  pass-is (f ∷ fs) t at k st ms lack h w b e d sm =
      let rd : line_at s at ≡ a_line f.label (line_size f) = read-line s at f (render fs t) w h.0 in
      let fit : at + line_size f ≤ length s = (read_back s at rd).within in
      let go = pass-line settype (in_set all) high f fs at k st ms lack sm e
      (λ st' lack'. pass_from s settype (at + line_size f) st' lack' (length fs))
      (λ st' ms' lack' sm'. pass-is fs t (at + line_size f) (k + 1) st' ms' lack' h.1 (reads_on s at f (render fs t) h.0 w) fit
      (next_place at k f fs e d) (rw add-one (offset-next all k f fs d).1) sm') in
      rw (rd, reads-content s at f (render fs t) h.0 w) go

-- What the pass over a set finds is the first fault of 11 to 16 and 24.
pub pass-found : (s : List ℕ) (settype : SetType) (fs : List Field) (t : List ℕ) → Every Sound fs → s ≡ render fs t
    → length fs ≤ max_lines → pass_set s settype (length fs) ≡ first_of (in_set fs) (faults_then_high (of_type settype) fs)
pass-found s settype fs t h w c =
    let alone : take (size fs) s ≡ render fs [] = ap (take (size fs)) w ∙ take-render fs t in
    pass-is s settype fs (high_in_set (render fs [])) (ap high_in_set alone) fs t 0 0 none_seen first no_refusal h w (omega arith) refl refl (none-agrees (in_set fs) refl)
    ∙ pass-finds settype (in_set fs) (high_in_set (render fs [])) fs (high-in-set-is (of_type settype) fs h c)
