-- A walk over the entries of a list by their heads, whatever is made of them. An entry that is cut ends it.
-- What each step of it is, and what it is for entries that were read, is in proofs/HeadWalkLaws.
use Rattle.std.specs.Prelude.{List, ℕ, zero, suc, ◌+◌, ◌-◌, length}
use Rattle.meaning.specs.Entries.{entry_lead}
use Rattle.entry_read.specs.Head.{entry_at, by_head}

-- what at most k entries from an offset on give: `by` makes it of an entry's offset, its label, the length of its content, and what the entries after it give; no entry gives `none`
unfoldable pub entries_from : {A : Type 0} → A → (ℕ → ℕ → ℕ → A → A) → List ℕ → ℕ → ℕ → A
entries_from none by l at zero = none
entries_from none by l at (suc k) = by_head (entry_at l at) none (λ label n. by at label n (entries_from none by l (at + (entry_lead + n)) k))

-- what all entries from an offset on give: there are no more of them than bytes
abbrev pub entries_left : {A : Type 0} → A → (ℕ → ℕ → ℕ → A → A) → List ℕ → ℕ → A
entries_left none by l at = entries_from none by l at (length l - at)
