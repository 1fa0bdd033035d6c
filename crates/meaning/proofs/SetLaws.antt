-- Sets: reading undoes writing and writing reading; line 2 of an accepted set is its sum, so the set is its list with the sum put in.
use mathlib.Core.Path.{◌≡◌, refl, sym, ap, ◌∙◌, subst}
use mathlib.Core.Bool.{true}
use mathlib.Core.List.{List, [], ◌∷◌, cons≢nil}
use Prim.Native.Nat.{ℕ, ◌+◌, ◌-◌, ◌≤◌}
use native.Mathlib.Omega.{arith}
use lib.ListN.{length, drop}
use borrow.Author.Tests.{eqb-true}
use Rattle.meaning.specs.Limits.{max_lines}
use Rattle.meaning.specs.Digits.{digits, number}
use Rattle.meaning.specs.Field.{Field, field}
use Rattle.meaning.specs.Refusals.{Reply, refused, done}
use Rattle.meaning.specs.Pieces.{Parsed, parsed, and_before, piece_then, pieces}
use Rattle.meaning.specs.Lines.{line_size, line_then, size, render, size_at, field_at, line_faults, set_over, line_form}
use Rattle.meaning.specs.Groups.{State, first, next}
use Rattle.meaning.specs.Rules.{Profile, profile, role_in, fits, start_faults, line_rules, rules_from, sum_faults, set_faults}
use Rattle.meaning.specs.Reading.{scan, in_set, by_rules, read}
use Rattle.meaning.specs.Lists.{without_sum, sum_field, with_sum}
use Rattle.meaning.proofs.Bools.{Every}
use Rattle.meaning.proofs.DigitLaws.{digits_number}
use Rattle.meaning.proofs.FaultLaws.{append-none, ask-last, refused-done, verdict-done}
use Rattle.meaning.proofs.PieceLaws.{piece_back, pieces-put, pieces-only}
use Rattle.meaning.proofs.LineLaws.{Sound, NoStart, LaterLine, AnyByte, whole, faults-line, field-line, size-line, drop-line, line-back, sound_back, line-lawful}
use Rattle.meaning.proofs.FieldLaws.{sum_fits}
use Rattle.meaning.proofs.RuleLaws.{line-fits, ruled, begins-of}

-- ---- scanning undoes writing

first-line : (f : Field) (t : List ℕ) (k : ℕ → List ℕ → Reply Parsed) → Sound f
    → piece_then line_form (line_faults (line_then f t)) 0 (line_then f t) k ≡ and_before f (k (0 + line_size f) t)
first-line f t k h = rw (faults-line f t h, field-line f t h, drop-line f t h, size-line f t h)

pub scan-render : (f : Field) (fs : List Field) (t : List ℕ) → length fs ≤ max_lines - 1 → Sound f → Every LaterLine fs → set_over t ≡ true
    → scan (render (f ∷ fs) t) ≡ done (parsed (f ∷ fs) t)
unfolding scan
scan-render f fs t l h hs e =
    first-line f (render fs t) (λ p s. pieces line_form (max_lines - 1) p s) h
    ∙ ap (and_before f) (pieces-put line_form LaterLine AnyByte line-lawful (max_lines - 1) (0 + line_size f) fs t l hs e)

-- ---- and writing undoes scanning

any-bytes : (s : List ℕ) → Every AnyByte s
any-bytes [] = tt
any-bytes (b ∷ s) = (tt, any-bytes s)

-- what was scanned: a first line, at most 511 more, and where the set ends
pub record Scanned (s : List ℕ) (fs : List Field) (t : List ℕ) : Type 0 where
  pub one : Field
  pub others : List Field
  pub all : fs ≡ one ∷ others
  pub first-sound : Sound one
  pub others-later : Every LaterLine others
  pub few : length others ≤ max_lines - 1
  pub at-end : set_over t ≡ true
  pub bytes : s ≡ render fs t

pub scanned : (s : List ℕ) (fs : List Field) (t : List ℕ) → scan s ≡ done (parsed fs t) → Scanned s fs t
unfolding scan
scanned [] fs t h = refused-done h
scanned (b ∷ bs) fs t h =
    let s : List ℕ = b ∷ bs in
    let r = piece_back line_form (line_faults s) 0 s (λ p t. pieces line_form (max_lines - 1) p t) fs t refl h in
    let w = whole s r.0 in
    let q = pieces-only line_form LaterLine AnyByte line-lawful (max_lines - 1) (0 + size_at s) (drop (size_at s) s) r.1 t (any-bytes (drop (size_at s) s)) r.3 in
    record {
      one = field_at s;
      others = r.1;
      all = r.2;
      first-sound = sound_back s w;
      others-later = q.all-good;
      few = q.few;
      at-end = q.at-end;
      bytes = line-back s w ∙ (ap (line_then (field_at s)) q.whole ∙ ap (λ (l : List Field). render l t) (sym r.2));
    }

-- ---- accepted sets

-- the lines of an accepted set: each can stand in a line, no later one starts a set, they are at most 512, and they keep every rule
pub record Standing (fs : List Field) : Type 0 where
  pub sound : Every Sound fs
  pub alone : Every NoStart (drop 1 fs)
  pub few : length fs ≤ max_lines
  pub right : set_faults fs ≡ []

later : (fs : List Field) → Every Sound fs → Every NoStart fs → Every LaterLine fs
later [] h k = tt
later (f ∷ fs) h k = ((h.0, k.0), later fs h.1 k.1)

pub later-sound : (fs : List Field) → Every LaterLine fs → Every Sound fs
later-sound [] h = tt
later-sound (f ∷ fs) h = (h.0.0, later-sound fs h.1)

later-alone : (fs : List Field) → Every LaterLine fs → Every NoStart fs
later-alone [] h = tt
later-alone (f ∷ fs) h = (h.0.1, later-alone fs h.1)

-- reading what was written
pub read-render : (fs : List Field) (t : List ℕ) → Standing fs → set_over t ≡ true → read (render fs t) ≡ done (parsed fs t)
unfolding read start_faults
read-render [] t h e = absurd (cons≢nil (ruled [] h.right).0.begins)
read-render (f ∷ fs) t h e =
    rw (scan-render f fs t (omega arith) h.sound.0 (later fs h.sound.1 h.alone) e) (rw h.right)

-- what an accepted set is
pub record Accepted (s : List ℕ) (d : Parsed) : Type 0 where
  pub bytes : s ≡ render d.fields d.rest
  pub standing : Standing d.fields
  pub at-end : set_over d.rest ≡ true

accepted-lines : (s : List ℕ) (fs : List Field) (t : List ℕ) → scan s ≡ done (parsed fs t) → set_faults fs ≡ [] → Accepted s (parsed fs t)
accepted-lines s fs t q e =
    let r = scanned s fs t q in
    let st : Standing (r.one ∷ r.others) = record {
      sound = (r.first-sound, later-sound r.others r.others-later);
      alone = later-alone r.others r.others-later;
      few = omega arith;
      right = subst (λ (x : List Field). set_faults x ≡ []) r.all e;
    } in
    record { bytes = r.bytes; standing = subst (λ (x : List Field). Standing x) (sym r.all) st; at-end = r.at-end }

pub accepted : (s : List ℕ) (d : Parsed) → read s ≡ done d → Accepted s d
unfolding read
accepted s d e = go (scan s) refl e
  where
    go : (r : Reply Parsed) → scan s ≡ r → by_rules r ≡ done d → Accepted s d
    go (refused x) q h = refused-done h
    go (done y) q h =
        let v = verdict-done (in_set y.fields) (set_faults y.fields) y d h in
        subst (λ (x : Parsed). Accepted s x) v.1 (accepted-lines s y.fields y.rest q v.0)

-- ---- line 2 of an accepted set is the sum, and nothing else

pub second_fits : (p : Profile) (f g : Field) (fs : List Field) → rules_from p first 0 (f ∷ g ∷ fs) ≡ [] → fits p g ≡ true
unfolding rules_from
second_fits p f g fs e =
    let st : State = next (role_in p first f) first 0 f.label in
    let a = append-none (line_rules (role_in p first f) p first 0 f) _ e in
    let b = append-none (line_rules (role_in p st g) p st (0 + 1) g) _ a.1 in
    line-fits (role_in p st g) p st (0 + 1) g b.0

-- an accepted set is its list with the sum put in
pub sum_back : (fs : List Field) → set_faults fs ≡ [] → fs ≡ with_sum (without_sum fs)
unfolding sum_faults
sum_back [] e = refl
sum_back (f ∷ []) e = let z : ◌≡◌ {A = ℕ} 0 8100 = (begins-of (f ∷ []) (ruled (f ∷ []) e).0.begins).second-label in absurd (omega arith)
sum_back (f ∷ g ∷ fs) e =
    let all : List Field = f ∷ g ∷ fs in
    let r = ruled all e in
    let l : g.label ≡ 8100 = (begins-of all r.0.begins).second-label in
    let h : fits (profile all) (field 8100 g.content) ≡ true =
    subst (λ (x : ℕ). fits (profile all) (field x g.content) ≡ true) l (second_fits (profile all) f g fs r.0.each-line) in
    let d = sum_fits (profile all) g.content h in
    let n : number g.content ≡ size all = eqb-true (number g.content) (size all) (ask-last _ _ r.1) in
    let m : number g.content ≡ line_size f + (14 + size fs) = omega (arith, d.five) in
    let c : digits 5 (number g.content) ≡ g.content = rw d.five at (digits_number g.content d.all-digits) in
    let g' : g ≡ sum_field (line_size f + (14 + size fs)) = λ i. record { label = l i; content = (sym c ∙ ap (digits 5) m) i } in
    ap (λ (x : Field). f ∷ x ∷ fs) g'
