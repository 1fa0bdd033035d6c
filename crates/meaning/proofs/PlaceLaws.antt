-- Places: at a line's offset stands the line, and after its lead the content. So an index entry points at its content.
use mathlib.Core.Path.{◌≡◌, refl, sym, ap, ◌∙◌}
use mathlib.Core.List.{List, [], ◌∷◌}
use Prim.Native.Nat.{ℕ, zero, suc, ◌+◌, ◌≤◌, ◌<◌}
use native.Mathlib.Omega.{arith}
use lib.ListN.{length, take, drop, get_or}
use lib.Seq.{take_at, drop_at, drop-drop}
use Rattle.meaning.specs.declared.Entry.{Entry}
use Rattle.meaning.specs.Field.{Field, no_field, content_at_line}
use Rattle.meaning.specs.Lines.{line_size, line_lead, line_then, offset, render}
use Rattle.meaning.specs.Groups.{State, next}
use Rattle.meaning.specs.Rules.{type_digits, Profile, role_in}
use Rattle.meaning.specs.Index.{entries_from}
use Rattle.meaning.specs.Lists.{sum_place}
use Rattle.meaning.proofs.LineLaws.{length-line, render-split}

-- after a line
pub drop-line_then : (f : Field) (t : List ℕ) → drop (line_size f) (line_then f t) ≡ t
drop-line_then f t =
    ap (drop (line_size f)) (render-split (f ∷ []) t) ∙ drop_at (line_then f []) t (line_size f) (length-line f [] ∙ omega arith)

-- at the offset of a line stand that line and those after it
pub drop-render : (fs : List Field) (k : ℕ) (t : List ℕ) → k ≤ length fs → drop (offset fs k) (render fs t) ≡ render (drop k fs) t
drop-render fs zero t h = refl
drop-render [] (suc k) t h = absurd (omega arith)
drop-render (f ∷ fs) (suc k) t h =
    sym (drop-drop (offset fs k) (line_size f) (render (f ∷ fs) t))
    ∙ (ap (drop (offset fs k)) (drop-line_then f (render fs t)) ∙ drop-render fs k t (omega arith))

-- after the lead of a line stands its content
content-here : (f : Field) (t : List ℕ) → take (length f.content) (drop line_lead (line_then f t)) ≡ f.content
content-here f t = take_at f.content (13 ∷ 10 ∷ t) (length f.content) refl

head-of-drop : (fs : List Field) (k : ℕ) (t : List ℕ) → k < length fs
    → take (length (content_at_line fs k)) (drop line_lead (render (drop k fs) t)) ≡ content_at_line fs k
head-of-drop [] k t h = absurd (omega arith)
head-of-drop (f ∷ fs) zero t h = content-here f (render fs t)
head-of-drop (f ∷ fs) (suc k) t h = head-of-drop fs k t (omega arith)

-- the content of the line that has k lines before it stands 7 bytes after the line's offset
pub content-at : (fs : List Field) (k : ℕ) (t : List ℕ) → k < length fs
    → take (length (content_at_line fs k)) (drop (offset fs k + line_lead) (render fs t)) ≡ content_at_line fs k
content-at fs k t h =
    ap (take (length (content_at_line fs k)))
    (sym (drop-drop line_lead (offset fs k) (render fs t)) ∙ ap (drop line_lead) (drop-render fs k t (omega arith)))
    ∙ head-of-drop fs k t h

-- the content of line 2 stands at the place of the sum, if line 1 has the digits of a type
pub sum-at : (f g : Field) (fs : List Field) (t : List ℕ) → length f.content ≡ type_digits
    → take (length g.content) (drop sum_place (render (f ∷ g ∷ fs) t)) ≡ g.content
sum-at f g fs t l =
    let e : sum_place ≡ offset (f ∷ g ∷ fs) 1 + line_lead = omega arith in
    ap (λ (n : ℕ). take (length g.content) (drop n (render (f ∷ g ∷ fs) t))) e ∙ content-at (f ∷ g ∷ fs) 1 t (omega arith)

-- ---- the index: as many entries as lines, and each says its line's label and where its content stands

pub index-count : (p : Profile) (st : State) (k at : ℕ) (fs : List Field) → length (entries_from p st k at fs) ≡ length fs
unfolding entries_from
index-count p st k at [] = refl
index-count p st k at (f ∷ fs) = ap suc (index-count p (next (role_in p st f) st k f.label) (k + 1) (at + line_size f) fs)

pub record Points (f : Field) (place : ℕ) (e : Entry) : Type 0 where
  pub label-so : e.label ≡ f.label
  pub place-so : e.place ≡ place + line_lead
  pub length-so : e.length ≡ length f.content

pub index-points : (p : Profile) (st : State) (k at : ℕ) (fs : List Field) (i : ℕ) (none : Entry) → i < length fs
    → Points (get_or fs i no_field) (at + offset fs i) (get_or (entries_from p st k at fs) i none)
unfolding entries_from
index-points p st k at [] i none h = absurd (omega arith)
index-points p st k at (f ∷ fs) zero none h = record { label-so = refl; place-so = omega arith; length-so = refl }
index-points p st k at (f ∷ fs) (suc i) none h =
    let r = index-points p (next (role_in p st f) st k f.label) (k + 1) (at + line_size f) fs i none (omega arith) in
    record { label-so = r.label-so; place-so = r.place-so ∙ omega arith; length-so = r.length-so }
