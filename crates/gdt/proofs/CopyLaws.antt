-- A copy of all or of nothing, for the two ways that `gdt_view_copy` ends.
use mathlib.Core.Path.{◌≡◌, sym, ap, ◌∙◌}
use mathlib.Core.List.{List, ◌++◌}
use Prim.Native.Nat.{ℕ, ◌≤◌, ◌<◌}
use native.Mathlib.Omega.{arith}
use lib.ListN.{length, drop}
use Rattle.face_replies.specs.Replies.{copied}
use Rattle.face_replies.proofs.CopiedLaws.{copied_all, copied-nothing}

-- too little room: the buffer b is left alone
pub copy-none : (xs part b : List ℕ) → part ≡ xs → length b < length part → (length part ≡ length xs) × (b ≡ copied xs b)
copy-none xs part b e h = (ap length e, sym (copied-nothing xs b (omega (arith, ap length e))))

-- room for all of it
pub copy-all : (xs part b after : List ℕ) → part ≡ xs → length part ≤ length b → after ≡ part ++ drop (length part) b → (length part ≡ length xs) × (after ≡ copied xs b)
copy-all xs part b after e h q =
    (ap length e, q ∙ (ap (λ (ys : List ℕ). ys ++ drop (length ys) b) e ∙ sym (copied_all xs b (omega (arith, ap length e)))))
