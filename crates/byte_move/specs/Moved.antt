-- What a buffer holds with bytes moved inside it.
use Rattle.std.specs.Prelude.{List, ◌++◌, ℕ, ◌+◌, take, drop}

-- b with its n bytes from offset `from` on copied over those from offset `to` on
unfoldable pub moved : (from to n : ℕ) → List ℕ → List ℕ
moved from to n b = take to b ++ take n (drop from b) ++ drop (to + n) b
