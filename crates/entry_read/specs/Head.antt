-- The walk of `entry_at`: the tests of an entry's head over the bytes and an offset, in the code's order. What the head means is `entry-is` in proofs/HeadLaws.
use Rattle.std.specs.Prelude.{cond, List, ℕ, ◌+◌, length, take, drop, leb, Option, Some, None}
use Rattle.entry_read.specs.declared.Head.{Head}
use Rattle.meaning.specs.Entries.{entry_lead, two_bytes_at}

-- what the head of an entry says, if the entry is all there
abbrev pub HeadRead : Type 0
HeadRead = Option Head

abbrev pub a_head : ℕ → ℕ → HeadRead
a_head label n = Some (record { label = label; length = n })

-- the head of the entry at an offset: its four bytes are there, and then its content
unfoldable pub entry_at : List ℕ → ℕ → HeadRead
entry_at s at =
    cond (leb (at + entry_lead) (length s))
    (cond (leb (at + (entry_lead + two_bytes_at s at)) (length s)) (a_head (two_bytes_at s (at + 2)) (two_bytes_at s at)) None) None

-- by the head of an entry
abbrev pub by_head : {A : Type 0} → HeadRead → A → (ℕ → ℕ → A) → A
by_head (Some h) x f = f h.label h.length
by_head None x f = x

-- the n bytes after the head at an offset
abbrev pub list_content : List ℕ → ℕ → ℕ → List ℕ
list_content l at n = take n (drop (at + entry_lead) l)
