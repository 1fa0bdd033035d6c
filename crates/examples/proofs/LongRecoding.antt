-- A set of 512 lines without 9206, recoded: the line that it would gain is the 513th (E5b and E5e of docs/DECISIONS.md). The other points of recoding are in crate `meaning_recode`;
-- this one stands apart, since a set of this size takes long to compute, and no edit asks for it again.
use mathlib.Core.Path.{◌≡◌, refl}
use mathlib.Core.List.{List, [], ◌∷◌}
use Prim.Native.Nat.{ℕ}
use lib.ListN.{length, replicate}
use Rattle.meaning.specs.Field.{field}
use Rattle.meaning.specs.Computes.{computes}
use Rattle.meaning.proofs.Asking.{line, set_of, Answer, refused_by, holds, on_buffer, answer}
use Rattle.meaning_recode.specs.declared.Code.{Code}
use Rattle.meaning_recode.specs.declared.Code.TheVariants.{Page437, Page1252}
use Rattle.meaning_recode.specs.RecodeCalls.{recode_call}
use Rattle.meaning_recode.specs.RecodeComputes.{recode_computes}

-- 512 lines, 5,135 bytes; E9h is a greek letter of 437 that 1252 has not
full : List ℕ
full = set_of (line 8000 "6310" ∷ line 9218 "02.10" ∷ line 3000 "7" ∷ line 8402 "EKG01" ∷ replicate 507 (field 6220 (0xE9 ∷ [])))

-- what the call answers, and leaves in a buffer that the set fills
into : Code → Answer
into w = on_buffer full (recode_call full (length full) w)

-- 7 at the set's length, though that letter has no character (27) and there is no room (22); if 437 is wanted, it stays as it is
full-decided : into Page1252 ∷ into Page437 ∷ [] ≡ refused_by 7 5135 0 ∷ holds 5135 full ∷ []
unfolding computes recode_computes answer into full
full-decided = refl
