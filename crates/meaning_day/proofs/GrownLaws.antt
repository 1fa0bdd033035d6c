-- Bytes joined to a file that start no set: the last set of the file would go on with them, and no set can, since its line 2 says its length. So building refuses them, too.
use mathlib.Core.Path.{◌≡◌, refl, sym, ap, ap₂, ◌∙◌}
use mathlib.Core.Bool.{true, false, true≢false}
use mathlib.Core.List.{List, [], ◌∷◌, ◌++◌, cons≢nil}
use Prim.Native.Nat.{ℕ, zero, suc, ◌+◌}
use native.Mathlib.Omega.{arith}
use lib.ListN.{drop}
use borrow.Author.Tests.{eqb-true}
use Rattle.meaning.specs.declared.Refusal.{Refusal}
use Rattle.meaning.specs.Digits.{number}
use Rattle.meaning.specs.Field.{Field, is_nil, content_at_line}
use Rattle.meaning.specs.Refusals.{Reply, refused, done, refusal, at_line, bad_sum}
use Rattle.meaning.specs.Pieces.{Parsed, parsed}
use Rattle.meaning.specs.Lines.{line_then, size, render, size_at, field_at, set_over}
use Rattle.meaning.specs.Rules.{start_faults, sum_faults}
use Rattle.meaning.specs.Reading.{read}
use Rattle.meaning.proofs.FaultLaws.{ask-last}
use Rattle.meaning.proofs.LineLaws.{Sound, field-line, drop-line, render-split}
use Rattle.meaning.proofs.RuleLaws.{ruled, begins-of}
use Rattle.meaning.proofs.SetLaws.{Standing, accepted}
use Rattle.meaning_day.specs.declared.DayEntry.{DayEntry}
use Rattle.meaning_day.specs.Days.{sets_from}
use Rattle.meaning_day.proofs.DayLaws.{drop-lines, read-longer, starts-longer, first-set, set_before, set-refused, no_more}

-- ---- the length of a set is known from its first two lines

-- the same bytes are the same line, and then the same bytes
same_line : (f g : Field) (t u : List ℕ) → Sound f → Sound g → line_then f t ≡ line_then g u → (f ≡ g) × (t ≡ u)
same_line f g t u h k e =
    (sym (field-line f t h) ∙ (ap field_at e ∙ field-line g u k), sym (drop-line f t h) ∙ (ap (λ (s : List ℕ). drop (size_at s) s) e ∙ drop-line g u k))

same_second : (fs gs : List Field) (t u : List ℕ) → Standing fs → Standing gs → render fs t ≡ render gs u → content_at_line fs 1 ≡ content_at_line gs 1
unfolding start_faults
same_second [] gs t u h k e = absurd (cons≢nil (ruled [] h.right).0.begins)
same_second (f ∷ []) gs t u h k e = let z : ◌≡◌ {A = ℕ} 0 8100 = (begins-of (f ∷ []) (ruled (f ∷ []) h.right).0.begins).second-label in absurd (omega arith)
same_second (f ∷ f' ∷ fs) [] t u h k e = absurd (cons≢nil (ruled [] k.right).0.begins)
same_second (f ∷ f' ∷ fs) (g ∷ []) t u h k e = let z : ◌≡◌ {A = ℕ} 0 8100 = (begins-of (g ∷ []) (ruled (g ∷ []) k.right).0.begins).second-label in absurd (omega arith)
same_second (f ∷ f' ∷ fs) (g ∷ g' ∷ gs) t u h k e =
    let a = same_line f g (render (f' ∷ fs) t) (render (g' ∷ gs) u) h.sound.0 k.sound.0 e in
    let b = same_line f' g' (render fs t) (render gs u) h.sound.1.0 k.sound.1.0 a.1 in
    ap (λ (x : Field). x.content) b.0

-- "8100 .. the sum of all line lengths of the set"
size-said : (fs : List Field) → Standing fs → number (content_at_line fs 1) ≡ size fs
unfolding sum_faults
size-said fs h = eqb-true (number (content_at_line fs 1)) (size fs) (ask-last _ (at_line bad_sum 1 0) (ruled fs h.right).1)

-- so two accepted sets with the same bytes at the front are of one length
same_size : (fs gs : List Field) (t u : List ℕ) → Standing fs → Standing gs → render fs t ≡ render gs u → size fs ≡ size gs
same_size fs gs t u h k e = sym (size-said fs h) ∙ (ap number (same_second fs gs t u h k e) ∙ size-said gs k)

-- one accepted set, and bytes after it that neither start a set nor are none: refused
pub set_grown : (x s : List ℕ) (fs : List Field) → read x ≡ done (parsed fs []) → set_over s ≡ false → (q : Refusal) × (read (x ++ s) ≡ refused q)
set_grown x s fs e o = go (read (x ++ s)) refl
  where
    not-read : (d : Parsed) → read (x ++ s) ≡ done d → ⊥
    not-read d r =
        let a = accepted x (parsed fs []) e in
        let b = accepted (x ++ s) d r in
        let w : render fs s ≡ render d.fields d.rest = render-split fs s ∙ (ap (λ (y : List ℕ). y ++ s) (sym a.bytes) ∙ b.bytes) in
        let n : size fs ≡ size d.fields = same_size fs d.fields s d.rest a.standing b.standing w in
        let t : s ≡ d.rest = sym (drop-lines fs s) ∙ (ap₂ drop n w ∙ drop-lines d.fields d.rest) in
        true≢false (sym b.at-end ∙ (ap set_over (sym t) ∙ o))

    go : (r : Reply Parsed) → read (x ++ s) ≡ r → (q : Refusal) × (read (x ++ s) ≡ refused q)
    go (refused q) r = (q, r)
    go (done d) r = absurd (not-read d r)

-- ---- the file

-- bytes that do not end a set are some
over-some : (s : List ℕ) → set_over s ≡ false → is_nil s ≡ false
over-some [] o = absurd (true≢false o)
over-some (b ∷ s) o = refl

-- bytes that start no set are refused, at the last set of the file that they are joined to
pub sets-grown : (n at : ℕ) (f s : List ℕ) (es : List DayEntry) (r : Refusal) → sets_from n at f ≡ done es → set_over s ≡ false → read s ≡ refused r
    → (q : Refusal) × (sets_from n at (f ++ s) ≡ refused q)
sets-grown zero at [] s es r h o e = (refusal r.no (at + r.place) r.label, set-refused zero at s r (over-some s o) e)
sets-grown zero at (b ∷ f) s es r h o e = no_more at b f es h
sets-grown (suc n) at [] s es r h o e = (refusal r.no (at + r.place) r.label, set-refused (suc n) at s r (over-some s o) e)
sets-grown (suc n) at (b ∷ f) s es r h o e =
    let y = first-set n at b f es h in
    go y.what.rest y.what.fields y.was_read (sets-grown n (at + size y.what.fields) y.what.rest s y.others r y.after-it o e)
  where
    go : (t : List ℕ) (fs : List Field) → read (b ∷ f) ≡ done (parsed fs t) → ((q : Refusal) × (sets_from n (at + size fs) (t ++ s) ≡ refused q))
        → (q : Refusal) × (sets_from (suc n) at ((b ∷ f) ++ s) ≡ refused q)
    go [] fs x ih =
        let g = set_grown (b ∷ f) s fs x o in
        (refusal g.0.no (at + g.0.place) g.0.label, set-refused (suc n) at ((b ∷ f) ++ s) g.0 refl g.1)
    go (c ∷ t) fs x ih =
        let over : set_over ((c ∷ t) ++ s) ≡ true = starts-longer (c ∷ t) s (accepted (b ∷ f) (parsed fs (c ∷ t)) x).at-end in
        let long : read ((b ∷ f) ++ s) ≡ done (parsed fs ((c ∷ t) ++ s)) = read-longer (b ∷ f) s (parsed fs (c ∷ t)) x over in
        (ih.0, set_before n at ((b ∷ f) ++ s) (parsed fs ((c ∷ t) ++ s)) long ∙ rw ih.1)
