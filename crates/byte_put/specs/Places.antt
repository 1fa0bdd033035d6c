-- What a buffer holds with bytes put into it at an offset, and how many bytes are moved at once.
use Rattle.std.specs.Prelude.{List, ◌++◌, ℕ, ◌+◌, length, take, drop}

-- b with the bytes x over those from offset `at` on
unfoldable pub over : (at : ℕ) → List ℕ → List ℕ → List ℕ
over at x b = take at b ++ (x ++ drop (at + length x) b)

abbrev pub word : ℕ
word = 8

abbrev pub half_word : ℕ
half_word = 4
