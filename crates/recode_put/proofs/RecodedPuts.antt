-- What the loans and the puts of this crate leave of a buffer.
use native.Mathlib.Omega.{arith}
use mathlib.Core.Path.{◌≡◌, refl, ap, ◌∙◌}
use mathlib.Core.List.{List, [], ◌++◌}
use Prim.Native.Nat.{ℕ, ◌+◌, ◌-◌, ◌≤◌}
use lib.ListN.{length, take, drop, set, replicate, length-drop, length-append, length-replicate, length-set}
use lib.Seq.{length-take-le}
use borrow.Rule.Slice.PartMut.{mid_of, put_mid}
use Rattle.meaning.specs.Digits.{digits}
use Rattle.meaning.specs.Field.{field}
use Rattle.meaning.specs.Lines.{line_then}
use Rattle.meaning.specs.Lists.{sum_digits, sum_place}
use Rattle.meaning_recode.specs.declared.Code.{Code}
use Rattle.meaning_recode.specs.Recoding.{charset_of}
use Rattle.byte_put.specs.Places.{over}
use Rattle.byte_put.proofs.LendLaws.{mid-tail, put-tail}
use Rattle.correct_put.specs.Middle.{replaced}
use Rattle.recode_bytes.specs.Mapped.{mapped}
use Rattle.recode_put.specs.Recoded.{line_three, gained_bytes, zeroed_after, mapped_front, with_line}

-- the part after the set is lent to what makes zeros of it
pub lent-zeros : (b y : List ℕ) (used : ℕ) → y ≡ replicate (length (mid_of used (length b - used) b)) 0 → put_mid used (length b - used) b y ≡ zeroed_after used b
unfolding zeroed_after
lent-zeros b y used e =
    put-tail b y used ∙ ap (λ (u : List ℕ). take used b ++ u) (e ∙ ap (λ (n : ℕ). replicate n 0) (ap length (mid-tail b used) ∙ length-drop used b))

-- the buffer stays as long as it was, also if a byte was stored
pub length-zeroed : (b y : List ℕ) (place x used : ℕ) → used ≤ length b → y ≡ zeroed_after used (set b place x) → length y ≡ length b
unfolding zeroed_after
length-zeroed b y place x used h e =
    let b' : List ℕ = set b place x in
    let n : length b' ≡ length b = length-set b place x in
    let k : length (take used b') ≡ used = length-take-le used b' (omega (arith, n)) in
    ap length e ∙ omega (arith, length-append (take used b') (replicate (length b' - used) 0), k, n, length-replicate {A = ℕ} (length b' - used) 0)

-- the set is lent to what maps it
pub lent-mapped : (t b y : List ℕ) (used : ℕ) → y ≡ mapped t (take used b) → y ++ drop used b ≡ mapped_front t used b
unfolding mapped_front
lent-mapped t b y used e = ap (λ (u : List ℕ). u ++ drop used b) e

-- the line, then the sum
pub line-then-sum : (w : Code) (b b₁ b₂ b₃ line : List ℕ) (used : ℕ) → b₁ ≡ b → line ≡ line_then (field 9206 (charset_of w)) []
    → b₂ ≡ replaced line_three 0 line used b₁ → b₃ ≡ over sum_place (digits sum_digits (used + gained_bytes)) b₂ → b₃ ≡ with_line w used b
unfolding with_line
line-then-sum w b b₁ b₂ b₃ line used e l r d = d ∙ rw (r, l, e) refl
