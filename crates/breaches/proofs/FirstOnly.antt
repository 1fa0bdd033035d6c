-- The first breach decides the answer: a set is refused with r exactly when r is the refusal of the first breach in the paper's order (`refused-exactly-with`).
use mathlib.Core.Path.{◌≡◌, refl, sym, ap, ap₂, ◌∙◌, subst}
use mathlib.Core.List.{List, [], ◌∷◌}
use mathlib.Core.Logic.{◌⊎◌, inl, inr, ◌↔◌}
use Prim.Native.Nat.{ℕ, zero, suc, pred, ◌+◌, ◌≤◌, ◌<◌}
use native.Mathlib.Omega.{arith}
use lib.ListN.{length, drop}
use borrow.Author.Tests.{eqb-true, eqb-false}
use lib.Dec.{eqb}
use mathlib.Core.Bool.{Bool, true, false}
use Rattle.meaning.specs.declared.Refusal.{Refusal}
use Rattle.meaning.specs.declared.SetType.{SetType}
use Rattle.meaning.specs.Field.{Field, label_at_line}
use Rattle.meaning.specs.Refusals.{refusal, empty, too_many_lines, no_sum, missing, bad_sum, high_byte}
use Rattle.meaning.specs.Lines.{line_lead, size, offset, render, size_at, field_at}
use Rattle.meaning.specs.Reading.{judge}
use Rattle.meaning.proofs.Bools.{Every}
use Rattle.meaning.proofs.LineLaws.{Sound, field-line, drop-line}
use Rattle.keeps.proofs.TableFacts.{ne_cases}
use Rattle.breaches.specs.Breaches.{LineStarts, LineBreach, too_many, bad-length, cut-line, bad-end, bad-label, low_byte, line_refusal, line_rank}
use Rattle.breaches.specs.Breaches.{SetLines, StartBreach, no-start, unknown-set, no-sum, start_refusal, start_rank, MissingBreach, of-set}
use Rattle.breaches.specs.Breaches.{of-group, of-name, missing_refusal, missing_rank, Breach, no_bytes, in-line, in_start, in-rules, in-missing}
use Rattle.breaches.specs.Breaches.{in-high, in_sum, refusal_of, rank_of, Rank, Before, FirstBreach}
use Rattle.breaches.proofs.FirstLine.{sounds, stage-of, line_of}
use Rattle.breaches.proofs.FirstBreach.{start-stage, missing-stage, one_list, refused-first, accepted-no-breach}
use Rattle.meaning.specs.Results.{Judged}
use Rattle.std.specs.Prelude.{Err, Ok}

-- ---- the refusal by rank and lines

line_number : ℕ → ℕ
line_number zero = too_many_lines
line_number (suc p) = suc p

-- only 6 has its place after the line's first byte
line_byte : ℕ → ℕ → ℕ
line_byte zero i = 0
line_byte (suc zero) i = 0
line_byte (suc (suc zero)) i = 0
line_byte (suc (suc (suc zero))) i = 0
line_byte (suc (suc (suc (suc zero)))) i = 0
line_byte (suc (suc (suc (suc (suc zero))))) i = 0
line_byte (suc (suc (suc (suc (suc (suc p)))))) i = line_lead + i

-- only 10 has its place at line 2
start_place : List Field → ℕ → ℕ
start_place fs n = elim (eqb n no_sum) [ true ↦ offset fs 1 | false ↦ 0 ]

told : ℕ → List Field → ℕ → ℕ → ℕ → Refusal
told zero fs l p i = refusal empty 0 0
told (suc zero) fs l p i = refusal (line_number p) (size fs + line_byte p i) 0
told (suc (suc zero)) fs l p i = refusal p (start_place fs p) 0
told (suc (suc (suc zero))) fs l p i = refusal p (offset fs l) (label_at_line fs l)
told (suc (suc (suc (suc zero)))) fs l p i = refusal missing (offset fs (pred l)) p
told (suc (suc (suc (suc (suc zero))))) fs l p i = refusal high_byte (offset fs l + (line_lead + i)) 0
told (suc (suc (suc (suc (suc (suc n)))))) fs l p i = refusal bad_sum (offset fs 1) 0

abbrev told_by : List Field → Rank → Refusal
told_by fs r = told r.stage fs r.line r.part r.byte

lines_of : {s : List ℕ} → Breach s → List Field
lines_of (no_bytes e) = []
lines_of (in-line fs rest l b) = fs
lines_of (in_start fs rest l b) = fs
lines_of (in-rules t fs rest l k i b) = fs
lines_of (in-missing t fs rest l b) = fs
lines_of (in-high fs rest l h k i a b e) = fs
lines_of (in_sum fs rest l e) = fs

line-told : (fs : List Field) (n : ℕ) (u : List ℕ) (b : LineBreach n u) → line_refusal (size fs) b ≡ told_by fs (line_rank b)
unfolding told line_number line_byte
line-told fs n u (too_many e) = ap (λ (p : ℕ). refusal 7 p 0) (omega arith)
line-told fs n u (bad-length e) = ap (λ (p : ℕ). refusal 2 p 0) (omega arith)
line-told fs n u (cut-line e) = ap (λ (p : ℕ). refusal 3 p 0) (omega arith)
line-told fs n u (bad-end e) = ap (λ (p : ℕ). refusal 4 p 0) (omega arith)
line-told fs n u (bad-label e) = ap (λ (p : ℕ). refusal 5 p 0) (omega arith)
line-told fs n u (low_byte i l e) = refl

start-told : (fs : List Field) (b : StartBreach fs) → start_refusal b ≡ told_by fs (start_rank b)
unfolding told start_place
start-told fs (no-start e) = refl
start-told fs (unknown-set e) = refl
start-told fs (no-sum e) = refl

missing-told : (t : SetType) (fs : List Field) (b : MissingBreach t fs) → missing_refusal b ≡ told_by fs (missing_rank b)
unfolding told
missing-told t fs (of-set l a q n) = refl
missing-told t fs (of-group h l i m q n) = refl
missing-told t fs (of-name k i m n) = refl

breach-told : (s : List ℕ) (b : Breach s) → refusal_of b ≡ told_by (lines_of b) (rank_of b)
unfolding told lines_of
breach-told s (no_bytes e) = refl
breach-told s (in-line fs rest l b) = line-told fs (length fs) rest b
breach-told s (in_start fs rest l b) = start-told fs b
breach-told s (in-rules t fs rest l k i b) = refl
breach-told s (in-missing t fs rest l b) = missing-told t fs b
breach-told s (in-high fs rest l h k i a b e) = refl
breach-told s (in_sum fs rest l e) = refl

-- ---- breaches of one rank are of the same lines

same-prefix : (gs hs : List Field) (a b : List ℕ) → Every Sound gs → Every Sound hs → render gs a ≡ render hs b → length gs ≡ length hs → gs ≡ hs
same-prefix [] [] a b p q e l = refl
same-prefix [] (h ∷ hs) a b p q e l = absurd (omega arith)
same-prefix (g ∷ gs) [] a b p q e l = absurd (omega arith)
same-prefix (g ∷ gs) (h ∷ hs) a b p q e l =
    let f : g ≡ h = sym (field-line g (render gs a) p.0) ∙ (ap field_at e ∙ field-line h (render hs b) q.0) in
    let r : render gs a ≡ render hs b =
    sym (drop-line g (render gs a) p.0) ∙ (ap (λ (x : List ℕ). drop (size_at x) x) e ∙ drop-line h (render hs b) q.0) in
    ap₂ (λ (x : Field) (xs : List Field). x ∷ xs) f (same-prefix gs hs a b p.1 q.1 r (omega arith))

-- where a breach is: nowhere, in a line, or in a set of well-formed lines
data Where (s : List ℕ) (fs : List Field) (r : Rank) : Type 0 where
  nowhere : s ≡ [] → fs ≡ [] → r.stage ≡ 0 → Where s fs r
  at-line : (rest : List ℕ) → LineStarts s fs rest → r.stage ≡ 1 → r.line ≡ length fs → Where s fs r
  in_lines : (rest : List ℕ) → SetLines s fs rest → 2 ≤ r.stage → Where s fs r

where-is : (s : List ℕ) (b : Breach s) → Where s (lines_of b) (rank_of b)
unfolding lines_of
where-is s (no_bytes e) = nowhere e refl refl
where-is s (in-line fs rest l b) = at-line rest l (stage-of (length fs) rest b) (line_of (length fs) rest b)
where-is s (in_start fs rest l b) = in_lines rest l (omega (arith, start-stage fs b))
where-is s (in-rules t fs rest l k i b) = in_lines rest l.set_lines (omega arith)
where-is s (in-missing t fs rest l b) = in_lines rest l.set_lines (omega (arith, missing-stage t fs b))
where-is s (in-high fs rest l h k i a b e) = in_lines rest l (omega arith)
where-is s (in_sum fs rest l e) = in_lines rest l (omega arith)

same-where : (s : List ℕ) (fs gs : List Field) (r : Rank) → Where s fs r → Where s gs r → fs ≡ gs
same-where s fs gs r (nowhere a b c) (nowhere d e f) = b ∙ sym e
same-where s fs gs r (nowhere a b c) (at-line u x y z) = absurd (omega arith)
same-where s fs gs r (nowhere a b c) (in_lines u x y) = absurd (omega arith)
same-where s fs gs r (at-line u x y z) (nowhere d e f) = absurd (omega arith)
same-where s fs gs r (at-line u x y z) (at-line v a b c) =
    same-prefix fs gs u v (sounds fs x.well-formed) (sounds gs a.well-formed) (sym x.its-bytes ∙ a.its-bytes) (sym z ∙ c)
same-where s fs gs r (at-line u x y z) (in_lines v a b) = absurd (omega arith)
same-where s fs gs r (in_lines u x y) (nowhere d e f) = absurd (omega arith)
same-where s fs gs r (in_lines u x y) (at-line v a b c) = absurd (omega arith)
same-where s fs gs r (in_lines u x y) (in_lines v a b) = one_list s gs v a fs u x

same_rank : (s : List ℕ) (b c : Breach s) → rank_of b ≡ rank_of c → refusal_of b ≡ refusal_of c
same_rank s b c e =
    let l : lines_of b ≡ lines_of c = same-where s (lines_of b) (lines_of c) (rank_of c) (subst (λ (r : Rank). Where s (lines_of b) r) e (where-is s b)) (where-is s c) in
    breach-told s b ∙ (ap₂ told_by l e ∙ sym (breach-told s c))

-- ---- of two ranks one comes before the other, or they are one

ordered : (m n : ℕ) → (m < n) ⊎ ((m ≡ n) ⊎ (n < m))
ordered m n = go (eqb m n) refl
  where
    other : (m < n) ⊎ (n < m) → (m < n) ⊎ ((m ≡ n) ⊎ (n < m))
    other (inl x) = inl x
    other (inr x) = inr (inr x)

    go : (b : Bool) → eqb m n ≡ b → (m < n) ⊎ ((m ≡ n) ⊎ (n < m))
    go true e = inr (inl (eqb-true m n e))
    go false e = other (ne_cases m n (eqb-false m n e))

-- Stage, line, part and byte are equal, one after the other: if one differs and those before it agree, one of the ranks comes before the other.
neither : (a b : Rank) → (Before a b → ⊥) → (Before b a → ⊥) → a ≡ b
neither a b p q = λ i. record { stage = st i; line = li i; part = pa i; byte = by i }
  where
    st : a.stage ≡ b.stage
    st = go (ordered a.stage b.stage)
      where
        go : (a.stage < b.stage) ⊎ ((a.stage ≡ b.stage) ⊎ (b.stage < a.stage)) → a.stage ≡ b.stage
        go (inl x) = absurd (p (inl x))
        go (inr (inl x)) = x
        go (inr (inr x)) = absurd (q (inl x))

    li : a.line ≡ b.line
    li = go (ordered a.line b.line)
      where
        go : (a.line < b.line) ⊎ ((a.line ≡ b.line) ⊎ (b.line < a.line)) → a.line ≡ b.line
        go (inl x) = absurd (p (inr (st, inl x)))
        go (inr (inl x)) = x
        go (inr (inr x)) = absurd (q (inr (sym st, inl x)))

    pa : a.part ≡ b.part
    pa = go (ordered a.part b.part)
      where
        go : (a.part < b.part) ⊎ ((a.part ≡ b.part) ⊎ (b.part < a.part)) → a.part ≡ b.part
        go (inl x) = absurd (p (inr (st, inr (li, inl x))))
        go (inr (inl x)) = x
        go (inr (inr x)) = absurd (q (inr (sym st, inr (sym li, inl x))))

    by : a.byte ≡ b.byte
    by = go (ordered a.byte b.byte)
      where
        go : (a.byte < b.byte) ⊎ ((a.byte ≡ b.byte) ⊎ (b.byte < a.byte)) → a.byte ≡ b.byte
        go (inl x) = absurd (p (inr (st, inr (li, inr (pa, x)))))
        go (inr (inl x)) = x
        go (inr (inr x)) = absurd (q (inr (sym st, inr (sym li, inr (sym pa, x)))))

-- ---- the first breach decides

pub one-first : (s : List ℕ) (r q : Refusal) → FirstBreach s r → FirstBreach s q → r ≡ q
one-first s r q f g =
    let e : rank_of f.breach ≡ rank_of g.breach = neither (rank_of f.breach) (rank_of g.breach) (g.none_before f.breach) (f.none_before g.breach) in
    f.its-refusal ∙ (same_rank s f.breach g.breach e ∙ sym g.its-refusal)

-- a set is refused with number, place and label r exactly when r is that of the first breach in the paper's order
pub refused-exactly-with : (s : List ℕ) (r : Refusal) → (judge s ≡ Err r) ↔ FirstBreach s r
refused-exactly-with s r = (refused-first s r, λ f. go f (judge s) refl)
  where
    go : FirstBreach s r → (j : Judged) → judge s ≡ j → judge s ≡ Err r
    go f (Ok x) e = absurd (accepted-no-breach s x e f.breach)
    go f (Err q) e = e ∙ ap Err (one-first s q r (refused-first s q e) f)
