-- A walk over the entries of a list: an entry that is cut, an entry more, no entry left; and entries that were read from an offset on.
use mathlib.Core.Path.{◌≡◌, refl, sym, ap, ◌∙◌}
use mathlib.Core.List.{List, [], ◌∷◌, cons≢nil}
use Prim.Native.Nat.{ℕ, zero, suc, ◌+◌, ◌-◌, ◌≤◌, ◌<◌}
use native.Mathlib.Omega.{arith}
use lib.ListN.{length, take, drop}
use Rattle.meaning.specs.Field.{Field}
use Rattle.meaning.specs.Entries.{entry_lead, list_size}
use Rattle.meaning.proofs.LeftLaws.{one-more}
use Rattle.entry_read.specs.Head.{entry_at, by_head, list_content, HeadRead, a_head}
use Rattle.entry_read.specs.HeadWalk.{entries_from, entries_left}
use Rattle.entry_read.proofs.HeadLaws.{entry-headless, whole_back}
use Rattle.std.specs.Prelude.{None, Some}

-- ---- the walk

module _ {A : Type 0} (none : A) (by : ℕ → ℕ → ℕ → A → A) (l : List ℕ) where
  cut-from : (at k : ℕ) → entry_at l at ≡ None → entries_from none by l at k ≡ none
  unfolding entries_from
  cut-from at zero e = refl
  cut-from at (suc k) e = rw e

  none_from : (at k : ℕ) → length l ≤ at → entries_from none by l at k ≡ none
  none_from at k h = cut-from at k (sym (entry-headless l at (omega arith)))

  -- as many entries as bytes are enough: a larger count gives the same
  enough : (k j at : ℕ) → length l ≤ at + k → length l ≤ at + j → entries_from none by l at k ≡ entries_from none by l at j
  unfolding entries_from
  enough zero j at h g = sym (none_from at j (omega arith))
  enough (suc k) zero at h g = none_from at (suc k) (omega arith)
  enough (suc k) (suc j) at h g = go (entry_at l at) (λ m. enough k j (at + (entry_lead + m)) (omega arith) (omega arith))
    where
      go : (x : HeadRead) → ((m : ℕ) → entries_from none by l (at + (entry_lead + m)) k ≡ entries_from none by l (at + (entry_lead + m)) j)
          → by_head x none (λ label m. by at label m (entries_from none by l (at + (entry_lead + m)) k))
          ≡ by_head x none (λ label m. by at label m (entries_from none by l (at + (entry_lead + m)) j))
      go None ih = refl
      go (Some h) ih = ap (by at h.label h.length) (ih h.length)

  module _ (at : ℕ) where
    pub entries-end : length l ≤ at → entries_left none by l at ≡ none
    entries-end h = none_from at (length l - at) h

    pub entries-cut : entry_at l at ≡ None → entries_left none by l at ≡ none
    entries-cut e = cut-from at (length l - at) e

    pub entries-on : {label m : ℕ} → entry_at l at ≡ a_head label m → entries_left none by l at ≡ by at label m (entries_left none by l (at + (entry_lead + m)))
    unfolding entries_from
    entries-on {label} {m} e =
        let h : at < length l = omega (arith, (whole_back l at e).within) in
        rw (one-more h, e) (ap (by at label m) (enough (length l - (at + 1)) (length l - (at + (entry_lead + m))) (at + (entry_lead + m)) (omega arith) (omega arith)))

-- ---- entries that were read

-- read at an offset, entry after entry
abbrev pub Reads : List ℕ → ℕ → List Field → Type 0
Reads l at [] = Unit
Reads l at (f ∷ fs) =
    (entry_at l at ≡ a_head f.label (length f.content)) × (list_content l at (length f.content) ≡ f.content) × Reads l (at + (entry_lead + length f.content)) fs

-- the entry after this one
pub list-next : (es : List Field) (j : ℕ) (f : Field) (fs : List Field) → drop j es ≡ f ∷ fs
    → (list_size (take (suc j) es) ≡ list_size (take j es) + (entry_lead + length f.content)) × (drop (suc j) es ≡ fs)
list-next [] zero f fs e = absurd (cons≢nil (sym e))
list-next [] (suc j) f fs e = absurd (cons≢nil (sym e))
list-next (x ∷ es) zero f fs e =
    let a : x ≡ f = cc in
    let b : es ≡ fs = cc in
    (ap (λ (y : Field). (length y.content + entry_lead) + 0) a ∙ omega arith, b)
list-next (x ∷ es) (suc j) f fs e =
    let ih = list-next es j f fs e in
    (omega (arith, ih.0), ih.1)
