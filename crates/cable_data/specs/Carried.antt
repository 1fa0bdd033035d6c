-- The walk over the bytes of a set that gives its data: "Lines are joined by one 1Ch in place of their 0Dh 0Ah".
-- `window-is` in proofs/CarriedLaws says that over one set alone in its bytes the walk gives the bytes of its stream.
use Rattle.std.specs.Prelude.{◌≡◌, cond, List, [], ◌∷◌, ℕ, zero, suc, ◌+◌, ◌≤◌, length, get_or, eqb}
use Rattle.meaning.specs.Field.{Field}
use Rattle.meaning.specs.Refusals.{done}
use Rattle.meaning.specs.Lines.{cr, line_end}
use Rattle.meaning_cable.specs.Stream.{separator, stream}
use Rattle.meaning_cable.specs.Blocks.{set_alone}

-- what a byte of a set is on the cable: 1Ch for 0Dh, any other itself
unfoldable pub carried : ℕ → ℕ
carried b = cond (eqb b cr) separator b

-- how many bytes of the set it stands for: a 0Ah follows the 0Dh
unfoldable pub width : ℕ → ℕ
width b = cond (eqb b cr) line_end 1

-- n bytes of data from an offset of the set on
unfoldable pub data_from : List ℕ → ℕ → ℕ → List ℕ
data_from s at zero = []
data_from s at (suc n) = carried (get_or s at 0) ∷ data_from s (at + width (get_or s at 0)) n

-- the offset after the bytes that these n stand for
unfoldable pub place_after : List ℕ → ℕ → ℕ → ℕ
place_after s at zero = at
place_after s at (suc n) = place_after s (at + width (get_or s at 0)) n

-- one set is alone in its bytes, and has n bytes of data or more
abbrev pub HasData : List ℕ → ℕ → Type 0
HasData s n = (fs : List Field) × (set_alone s ≡ done fs) × (n ≤ length (stream fs))
