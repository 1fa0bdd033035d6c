-- A test of every byte without a way out: what the fold comes to.
use mathlib.Core.Path.{◌≡◌, refl}
use mathlib.Core.Bool.{Bool, true, false, ◌&&◌}
use mathlib.Core.List.{List, [], ◌∷◌}
use Prim.Native.Nat.{ℕ}
use Rattle.std.specs.List.{fold}
use Rattle.meaning_cable.specs.Stream.{data_byte, all_data}

-- the answer after each byte: false, once a byte is wrong
none-right : (bs : List ℕ) → fold (λ fit b. fit && data_byte b) false bs ≡ false
none-right [] = refl
none-right (b ∷ bs) = none-right bs

-- and so with an answer so far
pub data-so-far : (fit : Bool) (bs : List ℕ) → fold (λ ok b. ok && data_byte b) fit bs ≡ fit && all_data bs
data-so-far true [] = refl
data-so-far true (b ∷ bs) = data-so-far (data_byte b) bs
data-so-far false bs = none-right bs
