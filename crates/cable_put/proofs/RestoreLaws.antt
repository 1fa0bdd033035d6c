-- The bytes that the data from an offset on stand for: one byte's, and then those after it. What each `return` and each turn of the two loops has to show.
use mathlib.Core.Path.{◌≡◌, refl, ap, ◌∙◌}
use mathlib.Core.Bool.{Bool, true, false, cond}
use mathlib.Core.List.{List, [], ◌∷◌, ◌++◌, append_assoc}
use mathlib.Core.Logic.{◌≢◌}
use Prim.Native.Nat.{ℕ, suc, ◌+◌, ◌≤◌, ◌<◌}
use native.Mathlib.Omega.{arith}
use lib.Dec.{eqb}
use lib.ListN.{length, take, drop, get_or, set, length-append, drop_of_length-le}
use lib.Seq.{set_split, sets-eq}
use borrow.Author.Tests.{eq-eqb, ne_eqb}
use Rattle.meaning.specs.Lines.{cr, lf, line_end}
use Rattle.meaning.proofs.Bools.{byte-then}
use Rattle.byte_put.specs.Places.{over}
use Rattle.byte_put.proofs.OverLaws.{Turned, here-fits, turned, over_none}
use Rattle.std.specs.List.{count_by}
use Rattle.std.proofs.lemmas.List.Recursion.{is_count_by}
use Rattle.meaning_cable.specs.Stream.{separator, restore_then, restored}

-- ---- one byte

-- what a byte stands for
abbrev pub alone : ℕ → List ℕ
alone b = restore_then b []

pub alone-end : (b : ℕ) → b ≡ separator → alone b ≡ cr ∷ lf ∷ []
alone-end b e = rw (eq-eqb b separator e)

pub alone-self : (b : ℕ) → b ≢ separator → alone b ≡ b ∷ []
alone-self b h = rw (ne_eqb b separator h)

then_append : (b : ℕ) (t : List ℕ) → restore_then b t ≡ alone b ++ t
then_append b t = go (eqb b separator)
  where
    go : (s : Bool) → cond s (cr ∷ lf ∷ t) (b ∷ t) ≡ cond s (cr ∷ lf ∷ []) (b ∷ []) ++ t
    go true = refl
    go false = refl

-- the end of a line, byte by byte
pub end-put : (b : List ℕ) (at : ℕ) → at + line_end ≤ length b → set (set b at cr) (at + 1) lf ≡ over at (cr ∷ lf ∷ []) b
unfolding over
end-put b at h =
    let e : at + 1 ≡ suc at = omega arith in
    rw e (sets-eq (cr ∷ lf ∷ []) b at h ∙ append_assoc (take at b) (cr ∷ lf ∷ []) (drop (at + 2) b))

-- any other byte
pub self-put : (out : List ℕ) (to b : ℕ) → to < length out → set out to b ≡ over to (b ∷ []) out
unfolding over
self-put out to b h =
    let e : to + 1 ≡ suc to = omega arith in
    rw e (set_split out to b h)

-- ---- the data from an offset on

module _ (x : List ℕ) (i : ℕ) where
  pub left-more : i < length x → restored (drop i x) ≡ alone (get_or x i 0) ++ restored (drop (i + 1) x)
  unfolding restored
  left-more h = rw (byte-then x i h) (then_append (get_or x i 0) (restored (drop (i + 1) x)))

  pub left-none : length x ≤ i → restored (drop i x) ≡ []
  unfolding restored
  left-none h = rw (drop_of_length-le x h)

  -- those counted, and those left, are as many before a turn as after it
  pub size-turn : (n m : ℕ) → i < length x → m ≡ n + length (alone (get_or x i 0)) → m + length (restored (drop (i + 1) x)) ≡ n + length (restored (drop i x))
  size-turn n m h e = omega (arith, ap length (left-more h), length-append (alone (get_or x i 0)) (restored (drop (i + 1) x)))

  pub size-end : (n : ℕ) → length x ≤ i → n ≡ n + length (restored (drop i x))
  size-end n h = omega (arith, ap length (left-none h))

  -- a turn of `put_restored`
  module _ (to : ℕ) (out : List ℕ) (h : i < length x) (g : to + length (restored (drop i x)) ≤ length out) where
    pub byte_fits : to + length (alone (get_or x i 0)) ≤ length out
    byte_fits = here-fits out to _ (alone (get_or x i 0)) _ (left-more h) g

    pub byte-turned : (to' : ℕ) (out' : List ℕ) → to' ≡ to + length (alone (get_or x i 0)) → out' ≡ over to (alone (get_or x i 0)) out
        → Turned out out' (restored (drop i x)) (restored (drop (i + 1) x)) to to'
    byte-turned to' out' a b = turned out to _ (alone (get_or x i 0)) _ (left-more h) g to' out' a b

  -- all are put
  pub put-end : (to : ℕ) (out : List ℕ) → length x ≤ i → out ≡ over to (restored (drop i x)) out
  put-end to out h = over_none out to ∙ ap (λ (u : List ℕ). over to u out) (rw (left-none h))

abbrev seps : List ℕ → ℕ
seps [] = 0
seps (b ∷ x) = cond (eqb b separator) (1 + seps x) (seps x)

with-seps : (x : List ℕ) → length (restored x) ≡ length x + seps x
unfolding restored
with-seps [] = refl
with-seps (b ∷ x) = go (eqb b separator) (with-seps x)
  where
    go : (t : Bool) → length (restored x) ≡ length x + seps x
        → length (cond t (cr ∷ lf ∷ restored x) (b ∷ restored x)) ≡ suc (length x) + cond t (1 + seps x) (seps x)
    go true e = omega (arith, e)
    go false e = omega (arith, e)

-- how many bytes the data stand for: as many as they are, and one more for each separator
pub restored-length : (x : List ℕ) → length (restored x) ≡ length x + count_by (λ b. eqb b separator) x
restored-length x = with-seps x ∙ ap (λ (n : ℕ). length x + n) (is_count_by seps (λ b. eqb b separator) refl (λ b y. refl) x)
