-- What the loans of `replace_middle` and the puts of `put_content` leave of a buffer.
use mathlib.Core.Path.{◌≡◌, refl, sym, ap, ap₂, ◌∙◌}
use mathlib.Core.List.{List, ◌++◌, append_assoc}
use Prim.Native.Nat.{ℕ, ◌+◌, ◌-◌, ◌≤◌}
use native.Mathlib.Omega.{arith}
use lib.ListN.{length, take, drop, replicate, length-drop, length-append, take-append-drop}
use lib.Seq.{take_at, drop_at, drop-drop, length-take-le}
use borrow.Rule.Slice.PartMut.{mid_of, put_mid}
use Rattle.meaning.specs.Digits.{digits}
use Rattle.meaning.specs.Lines.{length_digits, line_lead, line_end}
use Rattle.meaning.specs.Lists.{sum_digits, sum_place}
use Rattle.byte_put.specs.Places.{over}
use Rattle.byte_put.proofs.LendLaws.{mid-tail, put-tail}
use Rattle.byte_move.specs.Moved.{moved}
use Rattle.correct_put.specs.Middle.{replaced, new_total, recontented}

-- ---- what `replace_middle` leaves

-- the part after p is lent to what makes f of it
lent-after : (f : List ℕ → List ℕ) (b p r y : List ℕ) (at : ℕ) → b ≡ p ++ r → length p ≡ at → y ≡ f (mid_of at (length b - at) b)
    → put_mid at (length b - at) b y ≡ p ++ f r
lent-after f b p r y at e l q =
    put-tail b y at
    ∙ ap₂ (λ (u v : List ℕ). u ++ v) (ap (take at) e ∙ take_at p r at l) (q ∙ ap f (mid-tail b at ∙ ap (drop at) e ∙ drop_at p r at l))

-- moved, then copied over the front
moved-under : (r new : List ℕ) (old tail : ℕ) → length new + tail ≤ length r
    → drop (length new) (moved old (length new) tail r) ≡ take tail (drop old r) ++ drop (length new + tail) r
unfolding moved
moved-under r new old tail h =
    ap (drop (length new)) (append_assoc (take (length new) r) (take tail (drop old r)) (drop (length new + tail) r))
    ∙ drop_at (take (length new) r) (take tail (drop old r) ++ drop (length new + tail) r) (length new) (length-take-le (length new) r (omega arith))

-- the three loans: to the mover, to the copier, and of what becomes zero. Each is `lent-after`: the first two after the bytes before the content, the third after
-- all bytes that count then.
pub three-loans : (b new b₁ b₂ y₁ y₂ y₃ : List ℕ) (at old used tail end : ℕ) → at + old ≤ used → used ≤ length b → end ≤ length b
    → tail ≡ used - (at + old) → end ≡ at + length new + tail
    → y₁ ≡ moved old (length new) tail (mid_of at (length b - at) b) → b₁ ≡ put_mid at (length b - at) b y₁
    → y₂ ≡ new ++ drop (length new) (mid_of at (length b₁ - at) b₁) → b₂ ≡ put_mid at (length b₁ - at) b₁ y₂
    → y₃ ≡ replicate (length (mid_of end (length b₂ - end) b₂)) 0
    → put_mid end (length b₂ - end) b₂ y₃ ≡ replaced at old new used b
unfolding replaced
three-loans b new b₁ b₂ y₁ y₂ y₃ at old used tail end ho hu hb lt le e₁ q₁ e₂ q₂ e₃ =
    let p : List ℕ = take at b in
    let r : List ℕ = drop at b in
    let keep : List ℕ = take tail (drop old r) in
    let rest : List ℕ = drop (length new + tail) r in
    let lp : length p ≡ at = length-take-le at b (omega arith) in
    let lk : length keep ≡ tail = length-take-le tail (drop old r) (omega (arith, length-drop old r, length-drop at b)) in
    let lf : length (p ++ (new ++ keep)) ≡ end = omega (arith, length-append p (new ++ keep), length-append new keep) in
    let lr : length rest ≡ length b - end = omega (arith, length-drop (length new + tail) r, length-drop at b) in
    let s₁ : b₁ ≡ p ++ moved old (length new) tail r =
    q₁ ∙ lent-after (moved old (length new) tail) b p r y₁ at (sym (take-append-drop at b)) lp e₁ in
    let s₂ : b₂ ≡ (p ++ (new ++ keep)) ++ rest =
    q₂ ∙ lent-after (λ (x : List ℕ). new ++ drop (length new) x) b₁ p (moved old (length new) tail r) y₂ at s₁ lp e₂
    ∙ ap (λ (x : List ℕ). p ++ (new ++ x)) (moved-under r new old tail (omega (arith, length-drop at b)))
    ∙ ap (λ (x : List ℕ). p ++ x) (sym (append_assoc new keep rest))
    ∙ sym (append_assoc p (new ++ keep) rest) in
    lent-after (λ (x : List ℕ). replicate (length x) 0) b₂ (p ++ (new ++ keep)) rest y₃ end s₂ lf e₃
    ∙ append_assoc p (new ++ keep) (replicate (length rest) 0)
    ∙ ap (λ (x : List ℕ). p ++ x) (append_assoc new keep (replicate (length rest) 0))
    ∙ rw (lr, le, lt, drop-drop old at b) refl

-- ---- what `put_content` puts: the content, the line's length, the sum

pub three-puts : (b b₁ b₂ b₃ c : List ℕ) (place old used total : ℕ) → total ≡ new_total old c used
    → b₁ ≡ replaced (place + line_lead) old c used b
    → b₂ ≡ over place (digits length_digits (length c + (line_lead + line_end))) b₁
    → b₃ ≡ over sum_place (digits sum_digits total) b₂
    → b₃ ≡ recontented place old c used b
unfolding recontented
three-puts b b₁ b₂ b₃ c place old used total t e₁ e₂ e₃ = e₃ ∙ rw (t, e₂, e₁) refl
