-- Bytes put into a buffer one after the other, into a part of it that is lent, and zeros after them.
use mathlib.Core.Path.{◌≡◌, sym, ap, ap₂, ◌∙◌, subst}
use mathlib.Core.List.{List, [], ◌++◌, append_assoc}
use Prim.Native.Nat.{ℕ, ◌+◌, ◌-◌, ◌≤◌}
use native.Mathlib.Nat.{add-zero, zero-add}
use native.Mathlib.Omega.{arith}
use lib.ListN.{length, take, drop, replicate, length-drop, length-append, take-append-drop}
use lib.Seq.{take_at, drop_at, drop-drop, length-take-le}
use borrow.Rule.Slice.PartMut.{mid_of, put_mid}
use Rattle.byte_put.specs.Places.{over}
use Rattle.byte_put.proofs.LendLaws.{mid-tail, put-tail, length_over}

-- nothing put
pub over_none : (b : List ℕ) (to : ℕ) → b ≡ over to [] b
unfolding over
over_none b to = rw (add-zero to, take-append-drop to b)

-- one after the other
pub over-then : (b : List ℕ) (to : ℕ) (x y : List ℕ) → to + length (x ++ y) ≤ length b → over (to + length x) y (over to x b) ≡ over to (x ++ y) b
unfolding over
over-then b to x y h =
    let rest : List ℕ = drop (to + length x) b in
    let n : length (x ++ y) ≡ length x + length y = length-append x y in
    let lt : length (take to b) ≡ to = length-take-le to b (omega arith) in
    let whole : take to b ++ (x ++ rest) ≡ (take to b ++ x) ++ rest = sym (append_assoc (take to b) x rest) in
    let lf : length (take to b ++ x) ≡ to + length x = omega (arith, length-append (take to b) x) in
    let t : take (to + length x) (take to b ++ (x ++ rest)) ≡ take to b ++ x = ap (take (to + length x)) whole ∙ take_at (take to b ++ x) rest (to + length x) lf in
    let d : drop (to + length x + length y) (take to b ++ (x ++ rest)) ≡ drop (length y) rest =
    sym (drop-drop (length y) (to + length x) (take to b ++ (x ++ rest)))
    ∙ ap (drop (length y)) (ap (drop (to + length x)) whole ∙ drop_at (take to b ++ x) rest (to + length x) lf) in
    let e : to + length x + length y ≡ to + length (x ++ y) = omega (arith, n) in
    ap₂ (λ (u v : List ℕ). u ++ (y ++ v)) t (d ∙ (drop-drop (length y) (to + length x) b ∙ ap (λ (m : ℕ). drop m b) e))
    ∙ (append_assoc (take to b) x (y ++ drop (to + length (x ++ y)) b) ∙ ap (λ (u : List ℕ). take to b ++ u) (sym (append_assoc x y (drop (to + length (x ++ y)) b))))

-- A loop that puts piece after piece: what is left to put is always what was left, with the piece that was put.
pub record Turned (out out' all later : List ℕ) (to to' : ℕ) : Type 0 where
  pub same-room : length out' ≡ length out
  pub has_room : to' + length later ≤ length out'
  pub same : over to' later out' ≡ over to all out

module _ (out : List ℕ) (to : ℕ) (all here later : List ℕ) (both : all ≡ here ++ later) (g : to + length all ≤ length out) where
  fits_both : to + length (here ++ later) ≤ length out
  fits_both = subst (λ (u : List ℕ). to + length u ≤ length out) both g

  pub here-fits : to + length here ≤ length out
  here-fits = omega (arith, fits_both, length-append here later)

  pub turned : (to' : ℕ) (out' : List ℕ) → to' ≡ to + length here → out' ≡ over to here out → Turned out out' all later to to'
  turned to' out' a b =
      let r : length out' ≡ length out = ap length b ∙ length_over here out to here-fits in
      record {
        same-room = r;
        has_room = omega (arith, fits_both, length-append here later, a, r);
        same = ap₂ (λ (x : ℕ) (u : List ℕ). over x later u) a b ∙ (over-then out to here later fits_both ∙ ap (λ (u : List ℕ). over to u out) (sym both));
      }

-- what a loan of the part from an offset on leaves, if x was put at its front
pub over-lent : (b y : List ℕ) (to : ℕ) (x : List ℕ) → y ≡ x ++ drop (length x) (mid_of to (length b - to) b) → put_mid to (length b - to) b y ≡ over to x b
unfolding over
over-lent b y to x e =
    put-tail b y to ∙ ap (λ (u : List ℕ). take to b ++ u) (e ∙ ap (λ (u : List ℕ). x ++ u) (ap (drop (length x)) (mid-tail b to) ∙ drop-drop (length x) to b))

-- what was put at the front, and zeros in the part after it
pub front-then-zeros : (b b' y x : List ℕ) (n : ℕ) → b' ≡ over 0 x b → n ≡ length x → y ≡ replicate (length (mid_of n (length b' - n) b')) 0
    → put_mid n (length b' - n) b' y ≡ x ++ replicate (length b - length x) 0
unfolding over
front-then-zeros b b' y x n e l q =
    let e' : b' ≡ x ++ drop (length x) b = e ∙ ap (λ (m : ℕ). x ++ drop m b) (zero-add (length x)) in
    let d : drop n b' ≡ drop (length x) b = ap (drop n) e' ∙ drop_at x (drop (length x) b) n (sym l) in
    let t : take n b' ≡ x = ap (take n) e' ∙ take_at x (drop (length x) b) n (sym l) in
    put-tail b' y n ∙ ap₂ (λ (u v : List ℕ). u ++ v) t (q ∙ ap (λ (m : ℕ). replicate m 0) (ap length (mid-tail b' n ∙ d) ∙ length-drop (length x) b))
