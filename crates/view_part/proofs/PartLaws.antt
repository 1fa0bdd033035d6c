-- The ways that `later_entry` and `shown_bytes` end, and that a newer part lies within its slice.
use mathlib.Core.Path.{◌≡◌, subst}
use mathlib.Core.Bool.{Bool, true, false, cond}
use mathlib.Core.List.{List}
use Prim.Native.Nat.{ℕ, ◌+◌, ◌-◌, ◌≤◌}
use native.Mathlib.Nat.{add-sub_cancel_left}
use borrow.Author.Tests.{eq-eqb, ne_eqb}
use lib.Dec.{eqb}
use lib.ListN.{length, take, drop}
use Rattle.meaning.specs.declared.Part.{Part}
use Rattle.meaning.specs.Views.{shown_bytes}
use Rattle.view_part.specs.Parts.{newer, later, Within}
use Rattle.meaning.specs.Results.{Viewed, of_set, of_sheet}
use Rattle.meaning.specs.declared.Shown.TheVariants.{Set, Sheet}
use Rattle.std.specs.Prelude.{Ok}

-- ---- one more entry

pub later-this : (last at k n : ℕ) → k ≡ n → at ≡ later last at k n
unfolding later
later-this last at k n e = rw (eq-eqb k n e)

pub later-other : (last at k n : ℕ) → (k ≡ n → ⊥) → last ≡ later last at k n
unfolding later
later-other last at k n e = rw (ne_eqb k n e)

pub newer-within : (s h : List ℕ) (v : Viewed) (p : Part) (k n : ℕ) → p.place + p.length ≤ length h → Within s h v → Within s h (newer v p k n)
unfolding newer Within
newer-within s h v p k n g w = go (eqb k n)
  where
    go : (b : Bool) → Within s h (cond b (Ok (Sheet p)) v)
    go true = g
    go false = w

-- ---- the part itself

module _ (s h : List ℕ) (v : Viewed) (q : Part) where
  module _ (e : v ≡ of_sheet q) where
    pub sheet-ends : Within s h v → q.place + q.length ≤ length h
    unfolding Within
    sheet-ends w = subst (λ (u : Viewed). Within s h u) e w

    pub bytes-sheet : take ((q.place + q.length) - q.place) (drop q.place h) ≡ shown_bytes s h v
    bytes-sheet = rw (e, add-sub_cancel_left q.place q.length)

  module _ (e : v ≡ of_set q) where
    pub set-ends : Within s h v → q.place + q.length ≤ length s
    unfolding Within
    set-ends w = subst (λ (u : Viewed). Within s h u) e w

    pub bytes-set : take ((q.place + q.length) - q.place) (drop q.place s) ≡ shown_bytes s h v
    bytes-set = rw (e, add-sub_cancel_left q.place q.length)
