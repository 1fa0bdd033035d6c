-- ACK 1 told by one comparison of all bytes.
use mathlib.Core.Path.{◌≡◌, refl}
use mathlib.Core.Bool.{Bool, true, false, ◌&&◌}
use mathlib.Core.List.{List, [], ◌∷◌}
use Prim.Native.Nat.{ℕ}
use native.Mathlib.Omega.{arith}
use lib.Dec.{eqb}
use lib.ListN.{length}
use lib.Pointwise.{pointwise}
use borrow.Author.Tests.{ne_eqb}
use Rattle.meaning_cable.specs.Sending.{ack1, is_ack}

too-few : (a : Bool) → a && false ≡ false
too-few true = refl
too-few false = refl

no-more : (a b : Bool) → a && (b && false) ≡ false
no-more true b = too-few b
no-more false b = refl

just : (a b : Bool) → a && (b && true) ≡ a && b
just true true = refl
just true false = refl
just false b = refl

pub ack-bytes : (r : List ℕ) → pointwise eqb r ack1 ≡ is_ack r
unfolding is_ack
ack-bytes [] = refl
ack-bytes (x ∷ []) = too-few (eqb x 6)
ack-bytes (x ∷ y ∷ []) = just (eqb x 6) (eqb y 49)
ack-bytes (x ∷ y ∷ z ∷ r) = rw (ne_eqb (length (x ∷ y ∷ z ∷ r)) 2 (omega arith)) (no-more (eqb x 6) (eqb y 49))
