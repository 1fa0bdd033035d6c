-- A block's bytes by its label, and zeros after them: what each `return` of `put_size`, `put_by` and `put_block` has to show.
use mathlib.Core.Path.{◌≡◌, refl, sym, ap, ap₂, ◌∙◌, subst}
use mathlib.Core.Bool.{Bool, true, false}
use mathlib.Core.List.{List, [], ◌∷◌, ◌++◌, append_assoc}
use mathlib.Core.Logic.{◌≢◌}
use Prim.Native.Nat.{ℕ, ◌+◌, ◌-◌, ◌≤◌}
use native.Mathlib.Omega.{arith}
use lib.Dec.{eqb}
use lib.ListN.{length, take, drop, replicate, length-append, length-drop}
use lib.Seq.{take_at, drop_at, length-take-le}
use borrow.Author.Tests.{eq-eqb, ne_eqb, eqb-true, eqb-false}
use borrow.Rule.Slice.PartMut.{mid_of, put_mid}
use Rattle.meaning.specs.Lines.{cr, lf, line_end}
use Rattle.byte_put.specs.Places.{over}
use Rattle.byte_put.proofs.OverLaws.{over-then}
use Rattle.byte_put.proofs.LendLaws.{mid-tail, put-tail}
use Rattle.meaning_cable.specs.Stream.{restored}
use Rattle.meaning_cable.specs.Blocks.{b02}
use Rattle.meaning_cable.specs.Receiving.{put_by, written}

-- ---- by the label

module _ (label : ℕ) (x : List ℕ) where
  pub by_last : label ≡ b02 → put_by label x ≡ restored x ++ (cr ∷ lf ∷ [])
  unfolding put_by
  by_last e = rw (eq-eqb label b02 e)

  pub by-other : label ≢ b02 → put_by label x ≡ restored x
  unfolding put_by
  by-other h = rw (ne_eqb label b02 h)

  pub last-length : label ≡ b02 → length (put_by label x) ≡ length (restored x) + line_end
  last-length e = ap length (by_last e) ∙ length-append (restored x) (cr ∷ lf ∷ [])

  pub other_length : label ≢ b02 → length (put_by label x) ≡ length (restored x)
  other_length h = ap length (by-other h)

  -- the data are put in any case
  pub by-least : length (restored x) ≤ length (put_by label x)
  by-least = go (eqb label b02) refl
    where
      go : (t : Bool) → eqb label b02 ≡ t → length (restored x) ≤ length (put_by label x)
      go true e = omega (arith, last-length (eqb-true label b02 e))
      go false e = omega (arith, other_length (eqb-false label b02 e))

  -- the data, then the end of the last line
  pub last-put : (at end : ℕ) (out out₁ out₂ : List ℕ) → label ≡ b02 → at + length (put_by label x) ≤ length out → end ≡ at + length (restored x)
      → out₁ ≡ over at (restored x) out → out₂ ≡ over end (cr ∷ lf ∷ []) out₁ → out₂ ≡ over at (put_by label x) out
  last-put at end out out₁ out₂ e h n p q =
      let r : List ℕ = restored x in
      q ∙ (ap₂ (λ (m : ℕ) (u : List ℕ). over m (cr ∷ lf ∷ []) u) n p
      ∙ (over-then out at r (cr ∷ lf ∷ []) (subst (λ (u : List ℕ). at + length u ≤ length out) (by_last e) h)
      ∙ ap (λ (u : List ℕ). over at u out) (sym (by_last e))))

  pub other-put : (at : ℕ) (out out₁ : List ℕ) → label ≢ b02 → out₁ ≡ over at (restored x) out → out₁ ≡ over at (put_by label x) out
  other-put at out out₁ h p = p ∙ ap (λ (u : List ℕ). over at u out) (sym (by-other h))

-- ---- zeros after them

-- the part after p is lent, and comes back as zeros
zeros-lent : (b p r y : List ℕ) (n : ℕ) → b ≡ p ++ r → length p ≡ n → y ≡ replicate (length (mid_of n (length b - n) b)) 0
    → put_mid n (length b - n) b y ≡ p ++ replicate (length r) 0
zeros-lent b p r y n e l q =
    put-tail b y n
    ∙ ap₂ (λ (u v : List ℕ). u ++ v) (ap (take n) e ∙ take_at p r n l)
    (q ∙ ap (λ (u : List ℕ). replicate (length u) 0) (mid-tail b n ∙ (ap (drop n) e ∙ drop_at p r n l)))

pub zeros-after : (b b' y x : List ℕ) (at n : ℕ) → at + length x ≤ length b → b' ≡ over at x b → n ≡ at + length x
    → y ≡ replicate (length (mid_of n (length b' - n) b')) 0 → put_mid n (length b' - n) b' y ≡ written b at x
unfolding over
zeros-after b b' y x at n h e l q =
    zeros-lent b' (take at b ++ x) (drop (at + length x) b) y n (e ∙ sym (append_assoc (take at b) x (drop (at + length x) b)))
    (omega (arith, length-append (take at b) x, length-take-le at b (omega arith))) q
    ∙ (append_assoc (take at b) x (replicate (length (drop (at + length x) b)) 0) ∙ rw (length-drop (at + length x) b))
