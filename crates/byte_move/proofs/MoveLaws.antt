-- A move in two parts, one after the other, is the whole move if no byte of the second part is overwritten before it is read.
-- The code moves all bytes by one call. Of a text with two calls these laws say which order is right, so that must-fail/moved_the_other_way is refused for its order.
use mathlib.Core.Path.{◌≡◌, sym, ap, ◌∙◌}
use mathlib.Core.List.{List, ◌++◌, append_assoc}
use Prim.Native.Nat.{ℕ, ◌+◌, ◌-◌, ◌≤◌}
use native.Mathlib.Omega.{arith}
use lib.ListN.{length, take, drop, length-drop}
use lib.Seq.{paste, take-paste, drop-paste, take_at, drop_at, length-take-le, drop-drop, take-take, take-add}
use Rattle.std.proofs.lemmas.List.{drop-take}

-- the low part first: right if the bytes go down
low_part : (d : List ℕ) (i p m k : ℕ) → p ≤ i → i + m + k ≤ length d
    → paste (paste d p (drop i d) m) (p + m) (drop (i + m) (paste d p (drop i d) m)) k ≡ paste d p (drop i d) (m + k)
low_part d i p m k h g =
    let e : List ℕ = paste d p (drop i d) m in
    let fits : m ≤ length (drop i d) = omega (arith, length-drop i d) in
    let front : take (p + m) e ≡ take p d ++ take m (drop i d) = take-paste d p (drop i d) m (omega arith) fits in
    let past : drop (p + m) e ≡ drop (p + m) d = drop-paste d p (drop i d) m (omega arith) fits in
    let far : (j : ℕ) → p + m ≤ j → drop j e ≡ drop j d =
    λ j q. let s : p + m + (j - (p + m)) ≡ j = omega arith in
    ap (λ (x : ℕ). drop x e) (sym s) ∙ sym (drop-drop (j - (p + m)) (p + m) e) ∙ ap (drop (j - (p + m))) past ∙ drop-drop (j - (p + m)) (p + m) d ∙ ap (λ (x : ℕ). drop x d) s in
    let rest : p + m + k ≡ p + (m + k) = omega arith in
    rw (front, far (i + m) (omega arith), far (p + m + k) (omega arith), rest, take-add m k (drop i d), drop-drop m i d)
    (ap (λ (x : List ℕ). x ++ drop (p + (m + k)) d) (append_assoc (take p d) (take m (drop i d)) (take k (drop (i + m) d))))

-- the high part first: right if the bytes go up
high_part : (d : List ℕ) (i p m k : ℕ) → i ≤ p → p + m + k ≤ length d
    → paste (paste d (p + m) (drop (i + m) d) k) p (drop i (paste d (p + m) (drop (i + m) d) k)) m ≡ paste d p (drop i d) (m + k)
high_part d i p m k h g =
    let b : List ℕ = take k (drop (i + m) d) in
    let c : List ℕ = drop (p + m + k) d in
    let e : List ℕ = paste d (p + m) (drop (i + m) d) k in
    let long : length (take (p + m) d) ≡ p + m = length-take-le (p + m) d (omega arith) in
    let cut : e ≡ take (p + m) d ++ (b ++ c) = append_assoc (take (p + m) d) b c in
    let front : (j : ℕ) → j ≤ p + m → take j e ≡ take j d =
    λ j q. sym (take-take j (p + m) e q) ∙ ap (take j) (ap (take (p + m)) cut ∙ take_at (take (p + m) d) (b ++ c) (p + m) long) ∙ take-take j (p + m) d q in
    let read : take m (drop i e) ≡ take m (drop i d) = sym (drop-take i m e) ∙ ap (drop i) (front (i + m) (omega arith)) ∙ drop-take i m d in
    let past : drop (p + m) e ≡ b ++ c = ap (drop (p + m)) cut ∙ drop_at (take (p + m) d) (b ++ c) (p + m) long in
    let rest : p + m + k ≡ p + (m + k) = omega arith in
    rw (front p (omega arith), read, past, take-add m k (drop i d), drop-drop m i d, ← rest)
    (sym (append_assoc (take p d ++ take m (drop i d)) b c) ∙ ap (λ (x : List ℕ). x ++ c) (append_assoc (take p d) (take m (drop i d)) b))

-- The same by any names of the offsets: how the code's numbers make them is arithmetic.
pub low_first : (d : List ℕ) (i p m j q k : ℕ) → j ≡ i + m → q ≡ p + m → p ≤ i → j + k ≤ length d
    → paste (paste d p (drop i d) m) q (drop j (paste d p (drop i d) m)) k ≡ paste d p (drop i d) (m + k)
low_first d i p m j q k e f h g = rw (e, f) (low_part d i p m k h (omega (arith, e)))

pub high_first : (d : List ℕ) (i p m j q k : ℕ) → j ≡ i + m → q ≡ p + m → i ≤ p → q + k ≤ length d
    → paste (paste d q (drop j d) k) p (drop i (paste d q (drop j d) k)) m ≡ paste d p (drop i d) (m + k)
high_first d i p m j q k e f h g = rw (e, f) (high_part d i p m k h (omega (arith, f)))
