-- A copied view is the whole content or nothing: a cut content is never shown.
use mathlib.Core.Path.{◌≡◌, refl}
use mathlib.Core.List.{List, ◌++◌}
use Prim.Native.Nat.{ℕ, ◌≤◌, ◌<◌}
use borrow.Author.Tests.{le-leb, lt-leb}
use lib.ListN.{length, drop}
use Rattle.face_replies.specs.Replies.{copied}

-- there is room for all of it: it stands at the front, and what follows stays as it was
pub copied_all : (xs b : List ℕ) → length xs ≤ length b → copied xs b ≡ xs ++ drop (length xs) b
copied_all xs b h = rw (le-leb (length xs) (length b) h) refl

-- there is not: every byte stays as it was
pub copied-nothing : (xs b : List ℕ) → length b < length xs → copied xs b ≡ b
copied-nothing xs b h = rw (lt-leb (length xs) (length b) h) refl
