-- A buffer that holds the lines of a set, with the content of one line replaced, its length and the sum brought up to date: it holds the changed lines, and zeros.
use mathlib.Core.Path.{◌≡◌, refl, sym, ap, ap₂, ◌∙◌}
use mathlib.Core.List.{List, [], ◌∷◌, ◌++◌, append_assoc}
use Prim.Native.Nat.{ℕ, zero, suc, ◌+◌, ◌-◌, ◌<◌}
use native.Mathlib.Omega.{arith}
use lib.ListN.{length, take, drop, get_or, set, replicate, length-append, take-append-drop}
use lib.Seq.{take_at, drop_at, drop-append-add}
use Rattle.meaning.specs.Digits.{digits}
use Rattle.meaning.specs.Field.{Field, field, no_field, content_at_line}
use Rattle.meaning.specs.Lines.{length_digits, line_lead, line_end, line_size, line_then, size, offset, render}
use Rattle.meaning.specs.Lists.{sum_field, sum_digits, sum_place}
use Rattle.meaning.specs.Corrections.{recontent, resum}
use Rattle.meaning.proofs.LineLaws.{length-line, length-render, render-split}
use Rattle.meaning.proofs.CorrectionLaws.{leaves}
use Rattle.byte_put.specs.Places.{over}
use Rattle.byte_put.proofs.LendLaws.{over-after}
use Rattle.correct_put.specs.Middle.{replaced, new_total, recontented}
use Rattle.correct_plan.proofs.TotalLaws.{Headed, size-at, total-is}

-- ---- the bytes in the middle of some others

pub replaced-between : (a o r t c : List ℕ) (at old used : ℕ) → length a ≡ at → length o ≡ old → used ≡ at + old + length r
    → replaced at old c used (a ++ (o ++ (r ++ t))) ≡ a ++ (c ++ (r ++ replicate (length (a ++ (o ++ (r ++ t))) - (at + length c + length r)) 0))
unfolding replaced
replaced-between a o r t c at old used la lo lu =
    let b : List ℕ = a ++ (o ++ (r ++ t)) in
    let e : used - (at + old) ≡ length r = omega arith in
    let d : drop (at + old) b ≡ r ++ t =
    ap₂ (λ (x y : ℕ). drop (x + y) b) (sym la) (sym lo)
    ∙ (drop-append-add a (o ++ (r ++ t)) (length o) ∙ drop_at o (r ++ t) (length o) refl) in
    rw (e, d, take_at a (o ++ (r ++ t)) at la, take_at r t (length r) refl) refl

-- ---- one line among the lines

line-append : (f : Field) (p t : List ℕ) → line_then f (p ++ t) ≡ line_then f p ++ t
line-append f p t = rw (append_assoc f.content (13 ∷ 10 ∷ p) t)

-- the lines before it, the line, and those after it
render-at : (fs : List Field) (k : ℕ) (t : List ℕ) → k < length fs
    → render fs t ≡ render (take k fs) [] ++ line_then (get_or fs k no_field) (render (drop (suc k) fs) t)
render-at [] k t h = absurd (omega arith)
render-at (f ∷ fs) zero t h = refl
render-at (f ∷ fs) (suc k) t h =
    ap (line_then f) (render-at fs k t (omega arith))
    ∙ line-append f (render (take k fs) []) (line_then (get_or fs k no_field) (render (drop (suc k) fs) t))

-- with another line in its place
render-set : (fs : List Field) (k : ℕ) (g : Field) (t : List ℕ) → k < length fs
    → render (set fs k g) t ≡ render (take k fs) [] ++ line_then g (render (drop (suc k) fs) t)
render-set [] k g t h = absurd (omega arith)
render-set (f ∷ fs) zero g t h = refl
render-set (f ∷ fs) (suc k) g t h =
    ap (line_then f) (render-set fs k g t (omega arith))
    ∙ line-append f (render (take k fs) []) (line_then g (render (drop (suc k) fs) t))

-- the content of a line replaced, and its length: the bytes p stand before the line, and t after the u bytes that are lines
line-replaced : (p u t c : List ℕ) (f : Field) (place used : ℕ) → length p ≡ place → used ≡ place + line_size f + length u
    → over place (digits length_digits (length c + (line_lead + line_end)))
    (replaced (place + line_lead) (length f.content) c used (p ++ line_then f (u ++ t)))
    ≡ p ++ line_then (field f.label c) (u ++ replicate (length (p ++ line_then f (u ++ t)) - new_total (length f.content) c used) 0)
line-replaced p u t c f place used lp lu =
    let old : ℕ = length f.content in
    let b : List ℕ = p ++ line_then f (u ++ t) in
    let three : List ℕ = digits length_digits (line_size f) in
    let four : List ℕ = digits 4 f.label in
    let a : List ℕ = p ++ (three ++ four) in
    let r : List ℕ = 13 ∷ 10 ∷ u in
    let z : List ℕ = replicate (length b - new_total old c used) 0 in
    let s : b ≡ a ++ (f.content ++ (r ++ t)) = sym (append_assoc p (three ++ four) (f.content ++ (r ++ t))) in
    let la : length a ≡ place + line_lead = omega (arith, length-append p (three ++ four)) in
    let n : length b - (place + line_lead + length c + length r) ≡ length b - new_total old c used = omega arith in
    let q : replaced (place + line_lead) old c used b ≡ p ++ (three ++ (four ++ (c ++ (r ++ z)))) =
    ap (replaced (place + line_lead) old c used) s
    ∙ replaced-between a f.content r t c (place + line_lead) old used la refl (omega arith)
    ∙ ap (λ (y : List ℕ). a ++ (c ++ (r ++ replicate (length y - (place + line_lead + length c + length r)) 0))) (sym s)
    ∙ ap (λ (m : ℕ). a ++ (c ++ (r ++ replicate m 0))) n
    ∙ append_assoc p (three ++ four) (c ++ (r ++ z)) in
    ap (over place (digits length_digits (length c + (line_lead + line_end)))) q
    ∙ over-after p (digits length_digits (length c + (line_lead + line_end))) (three ++ (four ++ (c ++ (r ++ z)))) place lp

-- ---- the sum, after line 1 with its four digits
pub sum-replaced : (f g : Field) (fs : List Field) (t : List ℕ) (n : ℕ) → length f.content ≡ 4 → length g.content ≡ sum_digits → g.label ≡ 8100
    → over sum_place (digits sum_digits n) (render (f ∷ g ∷ fs) t) ≡ render (f ∷ sum_field n ∷ fs) t
sum-replaced f g fs t n lf lg e =
    let lead : List ℕ = digits length_digits (line_size g) ++ digits 4 g.label in
    let lead' : List ℕ = digits length_digits (sum_digits + (line_lead + line_end)) ++ digits 4 8100 in
    let l : lead ≡ lead' = rw (lg, e) refl in
    let p : List ℕ = line_then f lead' in
    let r : List ℕ = 13 ∷ 10 ∷ render fs t in
    let s : render (f ∷ g ∷ fs) t ≡ p ++ (g.content ++ r) =
    ap (λ (x : List ℕ). line_then f (x ++ (g.content ++ r))) l ∙ line-append f lead' (g.content ++ r) in
    ap (over sum_place (digits sum_digits n)) s
    ∙ over-after p (digits sum_digits n) (g.content ++ r) sum_place (length-line f lead' ∙ omega arith)
    ∙ ap (λ (x : List ℕ). p ++ (digits sum_digits n ++ x)) (drop_at g.content r (length (digits sum_digits n)) lg)
    ∙ sym (line-append f lead' (digits sum_digits n ++ r))

-- ---- the whole set in its buffer

-- the content and the line's length: the lines with that content, and zeros
content-replaced : (b c : List ℕ) (fs : List Field) (k used : ℕ) → take used b ≡ render fs [] → used ≡ size fs → k < length fs
    → over (offset fs k) (digits length_digits (length c + (line_lead + line_end)))
    (replaced (offset fs k + line_lead) (length (content_at_line fs k)) c used b)
    ≡ render (recontent fs k c) (replicate (length b - new_total (length (content_at_line fs k)) c used) 0)
content-replaced b c fs k used e n h =
    let f : Field = get_or fs k no_field in
    let t : List ℕ = drop used b in
    let p : List ℕ = render (take k fs) [] in
    let u : List ℕ = render (drop (suc k) fs) [] in
    let z : List ℕ = replicate (length b - new_total (length f.content) c used) 0 in
    let s : b ≡ p ++ line_then f (u ++ t) =
    sym (take-append-drop used b) ∙ ap (λ (x : List ℕ). x ++ t) e ∙ sym (render-split fs t) ∙ render-at fs k t h
    ∙ ap (λ (x : List ℕ). p ++ line_then f x) (render-split (drop (suc k) fs) t) in
    let lp : length p ≡ offset fs k = length-render (take k fs) [] ∙ omega arith in
    let lu : used ≡ offset fs k + line_size f + length u = omega (arith, size-at fs k h, length-render (drop (suc k) fs) []) in
    ap (λ (x : List ℕ). over (offset fs k) (digits length_digits (length c + (line_lead + line_end))) (replaced (offset fs k + line_lead) (length f.content) c used x)) s
    ∙ line-replaced p u t c f (offset fs k) used lp lu
    ∙ ap (λ (x : List ℕ). p ++ line_then (field f.label c) (u ++ replicate (length x - new_total (length f.content) c used) 0)) (sym s)
    ∙ ap (λ (x : List ℕ). p ++ line_then (field f.label c) x) (sym (render-split (drop (suc k) fs) z))
    ∙ sym (render-set fs k (field f.label c) z h)

-- and the sum
pub lines-changed : (b c : List ℕ) (fs : List Field) (k used : ℕ) → take used b ≡ render fs [] → used ≡ size fs → Headed fs
    → (0 ≡ k → ⊥) → (1 ≡ k → ⊥) → k < length fs
    → recontented (offset fs k) (length (content_at_line fs k)) c used b ≡ leaves (resum (recontent fs k c)) b
unfolding recontented
lines-changed b c [] k used e n q n0 n1 h = absurd (omega arith)
lines-changed b c (f ∷ []) k used e n q n0 n1 h = absurd (n0 (omega arith))
lines-changed b c (f ∷ g ∷ fs) zero used e n q n0 n1 h = absurd (n0 refl)
lines-changed b c (f ∷ g ∷ fs) (suc zero) used e n q n0 n1 h = absurd (n1 refl)
lines-changed b c (f ∷ g ∷ fs) (suc (suc k)) used e n q n0 n1 h =
    let all : List Field = f ∷ g ∷ fs in
    let old : ℕ = length (content_at_line fs k) in
    let total : ℕ = new_total old c used in
    let others : List Field = recontent fs k c in
    let done : List Field = resum (f ∷ g ∷ others) in
    let z : List ℕ = replicate (length b - total) 0 in
    let m : total ≡ size done = ap (new_total old c) n ∙ total-is c all (suc (suc k)) q n0 n1 h in
    let w : total ≡ length (render done []) = m ∙ sym (length-render done [] ∙ omega arith) in
    ap (over sum_place (digits sum_digits total)) (content-replaced b c all (suc (suc k)) used e n h)
    ∙ sum-replaced f g others z total q.first-four q.second-five q.second-label
    ∙ ap (λ (x : ℕ). render (f ∷ sum_field x ∷ others) z) (m ∙ omega arith)
    ∙ render-split done z
    ∙ ap (λ (x : ℕ). render done [] ++ replicate (length b - x) 0) w
