-- The walks of `first_without` and `map_bytes`, over the bytes of a set. What they are for its lines is in proofs/RecodedLaws of `recode_plan` and in proofs/RecodedLines of `recode`.
use Rattle.std.specs.Prelude.{◌≡◌, Bool, not, List, map, ℕ, ◌%◌, ◌<◌, eqb, length, get_or, take, drop}
use Rattle.byte_low.specs.Seek.{first_not}
use Rattle.byte_put.specs.Places.{over}
use Rattle.meaning_recode.specs.Codes.{no_byte}

-- an entry for each byte, and bytes below 80h stay as they are
pub record CodeTable (t : List ℕ) : Type 0 where
  pub whole : length t ≡ 256
  pub low-stays : (b : ℕ) → b < 128 → get_or t b no_byte ≡ b

-- the byte has a character in the wanted code page
abbrev pub has_character : List ℕ → ℕ → Bool
has_character t b = not (eqb (get_or t b no_byte) no_byte)

-- the offset of the first byte without one among the k bytes at an offset, or the offset after them
abbrev pub first_without : List ℕ → List ℕ → ℕ → ℕ → ℕ
first_without t s at k = first_not (has_character t) s at k

-- its entry as a byte; what is no byte becomes 0, and the callers ask for that before
abbrev pub entry : List ℕ → ℕ → ℕ
entry t b = get_or t b no_byte % 256

unfoldable pub mapped : List ℕ → List ℕ → List ℕ
mapped t s = map (entry t) s

-- with the k bytes at an offset mapped
unfoldable pub mapped_at : List ℕ → ℕ → ℕ → List ℕ → List ℕ
mapped_at t at k s = over at (mapped t (take k (drop at s))) s
